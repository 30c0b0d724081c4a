use Rattle.std.proofs.Common.{ℤ, Option, ap, subst, sym, ◌∙◌}
use Rattle.std.specs.Prelude.{int_lt}
use Rattle.dk_scans.specs.Extremes.{beats, extreme_of, IsExtreme}
use Rattle.dk_scans.specs.Selection.{numbers}
use Rattle.dk_scans.proofs.ExtremeLemmas.{extreme_is, beats_order, numbers_ordered}
use Rattle.dk_scans.proofs.SelectionLemmas.{numbers_len, asked_numbers}
use Rattle.dk_scans.proofs.scan.extreme_number.Goals as goal

pub best_number-requires : goal.best_number-requires
best_number-requires c = numbers_len _ _ _ c.args.cells.now.values (record { both = c.new.ensures; not_null = c.present.ensures; long = c.requires.rows }) _ c.in_ok-numbers.ensures.numbers

pub returns-clause-fold : goal.returns-clause-fold
returns-clause-fold c =
    c.best_number.ensures ∙ ap (extreme_of (beats int_lt c.args.extreme)) (asked_numbers _ _ _ c.args.cells.now.values (record { both = c.new.ensures; not_null = c.present.ensures; long = c.requires.rows }) _ c.in_ok-numbers.ensures.numbers)

pub returns-clause-extreme : goal.returns-clause-extreme
returns-clause-extreme c =
    let all = numbers c.args.rows.now c.args.cells.now.values in
    subst (λ (best : Option ℤ). IsExtreme (beats int_lt c.args.extreme) all best) (sym (returns-clause-fold c)) (extreme_is (beats_order numbers_ordered c.args.extreme) all)
