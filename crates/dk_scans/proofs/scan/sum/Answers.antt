use Rattle.std.proofs.Common.{◌+ℤ◌, pos, fold, ap, ◌∙◌, rules, FitsSigned}
use Rattle.std.specs.Int.{w128}
use Rattle.std.proofs.lemmas.Int.{to_z-of_z}
use Rattle.dk_scans.proofs.SelectionLemmas.{numbers_len, asked_numbers}
use Rattle.dk_scans.proofs.scan.sum.Goals as goal

pub sum-requires : goal.sum-requires
sum-requires c = numbers_len _ _ _ c.args.cells.now.values (record { both = c.new.ensures; not_null = c.present.ensures; long = c.requires.rows }) _ c.in-Some.ensures.numbers

pub returns : goal.returns
returns c =
    let fits : FitsSigned w128 c.sum.result = search rules in
    to_z-of_z w128 c.sum.result fits ∙ c.sum.ensures
    ∙ ap (fold ◌+ℤ◌ (pos 0)) (asked_numbers _ _ _ c.args.cells.now.values (record { both = c.new.ensures; not_null = c.present.ensures; long = c.requires.rows }) _ c.in-Some.ensures.numbers)
