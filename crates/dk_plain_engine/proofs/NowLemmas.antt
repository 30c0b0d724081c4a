-- What a transaction that sees all commits sees, and the tables behind one more commit.
use Rattle.std.proofs.Common.{◌≡◌, ◌+◌, ◌-◌, ◌^◌, ℕ, List, [], ◌∷◌, ◌++◌, length, take, ap, ◌∙◌, sym, refl, take_all, arith, Option, Some, None, append-nil}
use Rattle.std.specs.Prelude.{min, option_to_list}
use Rattle.std.proofs.lemmas.List.Sums.{sum-map, sum_by-append}
use Rattle.dk_types.specs.declared.net.Commit.{Commit}
use Rattle.dk_syntax.specs.declared.statement.Statement.{Statement}
use Rattle.dk_si.specs.declared.database.Table.{Table}
use Rattle.dk_si.specs.declared.history.Asked.TheVariants.{Good}
use Rattle.dk_si.specs.declared.machine.OpenTransaction.{OpenTransaction}
use Rattle.dk_si.specs.declared.meaning.Meaning.{Meaning}
use Rattle.dk_si.specs.Database.{after, after_all, apply, apply_net}
use Rattle.dk_si.specs.Machine.{committed_count, meaning_in}
use Rattle.dk_si.specs.Meaning.{meaning}
use Rattle.dk_si.specs.Nets.{row_count}
use Rattle.dk_si.specs.Spent.{committed_rows, new_rows_of}
use Rattle.dk_si.specs.Weight.{cap}
use Rattle.dk_plain_engine.specs.Now.{entered, rows_entered}

pub after_now : (opened tables : List Table) (commits : List Commit) (start : ℕ) → start ≡ length commits
    → tables ≡ after_all commits opened → after opened commits start ≡ tables
after_now opened tables commits start all is =
    ap (λ n. after_all (take n commits) opened) all
    ∙ (ap (λ list. after_all list opened) (take_all (length commits) commits (omega arith)) ∙ sym is)

pub meaning_now : (opened tables : List Table) (commits : List Commit) (active : OpenTransaction) (statement : Statement) (meant : Meaning)
    → active.net ≡ [] → active.start ≡ length commits → tables ≡ after_all commits opened
    → meant ≡ meaning tables statement → meant ≡ meaning_in opened commits active (Good statement)
meaning_now opened tables commits active statement meant none all is found =
    found
    ∙ (ap (λ list. meaning list statement) (sym (after_now opened tables commits active.start all is))
    ∙ ap (λ net. meaning (apply_net net (after opened commits active.start)) statement) (sym none))

pub count_now : (opened tables : List Table) (commits : List Commit) (active : OpenTransaction) (table count : ℕ)
    → active.start ≡ length commits → tables ≡ after_all commits opened
    → count ≡ row_count tables table → count ≡ committed_count opened commits active table
count_now opened tables commits active table count all is found =
    found ∙ ap (λ list. row_count list table) (sym (after_now opened tables commits active.start all is))

pub after_one : (commits : List Commit) (commit : Commit) (opened : List Table)
    → after_all (commits ++ commit ∷ []) opened ≡ apply commit (after_all commits opened)
after_one [] commit opened = refl
after_one (first ∷ commits) commit opened = after_one commits commit (apply first opened)

pub creation_now : (opened tables : List Table) (commits : List Commit) (statement : Statement) (meant : Meaning)
    → tables ≡ after_all commits opened → meant ≡ meaning tables statement
    → meant ≡ meaning (after opened commits (length commits)) statement
creation_now opened tables commits statement meant is found =
    found ∙ ap (λ list. meaning list statement) (sym (after_now opened tables commits (length commits) refl is))

behind_entered : (commit : Option Commit) (commits : List Commit)
    → entered commit (after_all commits []) ≡ after_all (commits ++ option_to_list commit) []
behind_entered None commits = ap (λ list. after_all list []) (sym (append-nil commits))
behind_entered (Some commit) commits = sym (after_one commits commit [])

-- the tables behind all commits, and one more
pub entered_all : (commit : Option Commit) (before after : List Commit) (tables now : List Table)
    → now ≡ entered commit tables → tables ≡ after_all before [] → after ≡ before ++ option_to_list commit
    → now ≡ after_all after []
entered_all commit before after tables now is all more =
    is ∙ (ap (entered commit) all ∙ (behind_entered commit before ∙ ap (λ list. after_all list []) (sym more)))

-- how many rows stand behind all commits, and one more
behind_rows : (commit : Option Commit) (commits : List Commit)
    → committed_rows [] (commits ++ option_to_list commit) ≡ committed_rows [] commits + rows_entered commit
behind_rows None commits = ap (committed_rows []) (append-nil commits) ∙ omega arith
behind_rows (Some commit) commits =
    let both = sum-map new_rows_of (commits ++ commit ∷ []) ∙ sum_by-append new_rows_of commits (commit ∷ []) in
    let own = sum-map new_rows_of commits in
    omega (arith, both, own)

cap_more : (a b : ℕ) → min (cap a + cap b) (2 ^ 64 - 1) ≡ cap (a + b)
cap_more a b = grind arith

pub rows_all : (commit : Option Commit) (before after : List Commit) (rows more now : ℕ)
    → now ≡ min (rows + more) (2 ^ 64 - 1) → rows ≡ cap (committed_rows [] before) → more ≡ cap (rows_entered commit)
    → after ≡ before ++ option_to_list commit → now ≡ cap (committed_rows [] after)
rows_all commit before after rows more now is all one add =
    is ∙ (ap (λ n. min (n + more) (2 ^ 64 - 1)) all
    ∙ (ap (λ n. min (cap (committed_rows [] before) + n) (2 ^ 64 - 1)) one
    ∙ (cap_more (committed_rows [] before) (rows_entered commit)
    ∙ ap cap (sym (behind_rows commit before) ∙ ap (λ list. committed_rows [] list) (sym add)))))
