-- A statement that is refused at none of the states so far may be refused at a later one.
use Rattle.std.proofs.Common.{◌≡◌, ℕ, suc, ◌+◌, ◌-◌, ◌<◌, Bool, false, List, ap, sym, ◌∙◌, arith}
use Rattle.std.specs.Prelude.{◌||◌}
use Rattle.dk_types.specs.declared.net.Commit.{Commit}
use Rattle.dk_syntax.specs.declared.statement.Statement.{Statement}
use Rattle.dk_types.specs.declared.reply.Refusal.{Refusal}
use Rattle.dk_si.specs.declared.database.Table.{Table}
use Rattle.dk_si.specs.MayAnswer.{is_refused_from}

pub refused_on : (opened : List Table) (commits : List Commit) (statement : Statement) (refusal : Refusal) (start
    step more : ℕ) (all : Bool)
    → step < more → is_refused_from opened commits statement refusal (start + step) 0 ≡ false
    → is_refused_from opened commits statement refusal (start + step) (more - step) ≡ all
    → is_refused_from opened commits statement refusal (start + (step + 1)) (more - (step + 1)) ≡ all
refused_on opened commits statement refusal start step more all less not_here told =
    let rest = more - (step + 1) in
    let left : suc rest ≡ more - step = omega (arith, less) in
    let place : start + (step + 1) ≡ start + step + 1 = omega arith in
    ap (λ n. is_refused_from opened commits statement refusal n rest) place
    ∙ (sym (ap (λ here. here || is_refused_from opened commits statement refusal (start + step + 1) rest) not_here)
    ∙ (ap (is_refused_from opened commits statement refusal (start + step)) left ∙ told))
