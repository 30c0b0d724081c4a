use Rattle.std.proofs.Common.{◌≡◌, ◌+◌, ◌-◌, ℕ, ap, sym, ◌∙◌, arith}
use Rattle.dk_rows.specs.Parts.{start_of}
use Rattle.dk_rows.proofs.PartsLemmas.{start_first, start_next}
use Rattle.dk_rows.proofs.texts.start_at.Goals as goal

pub returns-then-i-eq0 : goal.returns-then-i-eq0
returns-then-i-eq0 c = sym (ap (λ (k : ℕ). start_of 0 k c.args.ends.now) c.if-i-eq0.true ∙ start_first 0 c.args.ends.now)

pub returns-else-i-eq0 : goal.returns-else-i-eq0
returns-else-i-eq0 c =
    let e : c.args.i - 1 + 1 ≡ c.args.i = omega (arith, c.if-i-eq0.false) in
    sym (ap (λ (k : ℕ). start_of 0 k c.args.ends.now) (sym e) ∙ start_next 0 (c.args.i - 1) 0 c.args.ends.now (omega (arith, c.if-i-eq0.false, c.requires)))
