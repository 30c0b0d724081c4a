use Rattle.std.proofs.Common.{◌<◌, ℤ, Bool, pos, Some, List, [], length, get_or, ap, ◌∙◌, ◌++◌, rules, FitsSigned, arith}
use Rattle.std.specs.Int.{w64}
use Rattle.std.proofs.lemmas.Int.{to_z-of_z}
use Rattle.std.proofs.lemmas.Option.{slice_get-get_or}
use Rattle.dk_scans.proofs.SelectionLemmas.{first_selected, select_next}
use Rattle.dk_scans.proofs.extremes.first_number.Goals as goal

pub returns-then-get : goal.returns-then-get
returns-then-get c =
    let n : ℤ = get_or c.args.numbers.now c.numbers.i (pos 0) in
    let number : FitsSigned w64 n = search rules in
    let within : c.numbers.i < length c.args.numbers.now = omega (arith, c.numbers-test.true) in
    ap (λ (m : ℤ). Some m) (to_z-of_z w64 n number)
    ∙ first_selected c.args.flags.now c.args.numbers.now c.numbers.i n c.numbers.invariant (c.get.ensures ∙ ap (λ (b : Bool). Some b) c.if-get.true) (slice_get-get_or c.args.numbers.now c.numbers.i (pos 0) within)

pub numbers-preserved : goal.numbers-preserved
numbers-preserved c =
    let n : ℤ = get_or c.args.numbers.now c.numbers.i (pos 0) in
    let within : c.numbers.i < length c.args.numbers.now = omega (arith, c.numbers-test.true) in
    select_next c.args.flags.now c.args.numbers.now c.numbers.i _ n (c.get.ensures ∙ ap (λ (b : Bool). Some b) c.if-get.false) (slice_get-get_or c.args.numbers.now c.numbers.i (pos 0) within) within c.requires
    ∙ ap (λ (ns : List ℤ). ns ++ []) c.numbers.invariant
