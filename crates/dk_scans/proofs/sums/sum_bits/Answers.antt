use Rattle.std.proofs.Common.{◌≡◌, ◌+◌, ◌==◌, ◌<◌, ◌+ℤ◌, ℤ, pos, Bool, [], ◌∷◌, length, take, get_or, fold, ap, ◌∙◌, rules, FitsSigned, arith}
use mir.Val.{to_z}
use Rattle.std.specs.Int.{w64, w128, bit_at}
use Rattle.std.proofs.lemmas.Int.{ints, to_z-of_z}
use Rattle.std.proofs.lemmas.Option.{slice_get-get_or}
use Rattle.dk_scans.specs.Selection.{select, bits, if_set}
use Rattle.dk_scans.proofs.FoldLemmas.{select_more, folded_more, plus_set}
use Rattle.dk_scans.proofs.sums.sum_bits.Goals as goal

pub numbers-preserved : goal.numbers-preserved
numbers-preserved c =
    let n : ℤ = get_or c.args.numbers.now c.numbers.i (pos 0) in
    let number : FitsSigned w64 n = search rules in
    let added : FitsSigned w64 c.if_set.result = search rules in
    let within : c.numbers.i < length c.args.numbers.now = omega (arith, c.numbers-test.true) in
    let value : c.if_set.result ≡ if_set (bit_at c.args.word c.numbers.i == 1) n =
    c.if_set.ensures ∙ ap (if_set c.is_set.result) (to_z-of_z w64 n number) ∙ ap (λ (b : Bool). if_set b n) c.is_set.ensures in
    let step : to_z w128 c.numbers.sum-bits +ℤ c.if_set.result ≡ fold ◌+ℤ◌ (pos 0) (select (bits (c.numbers.i + 1) c.args.word) (take (c.numbers.i + 1) c.args.numbers.now)) =
    folded_more ◌+ℤ◌ (pos 0) _ _ (select (bits c.numbers.i c.args.word) (take c.numbers.i c.args.numbers.now)) (select ((bit_at c.args.word c.numbers.i == 1) ∷ []) (n ∷ [])) _ c.numbers.invariant.0
    (select_more c.args.numbers.now c.args.word c.numbers.i n (slice_get-get_or c.args.numbers.now c.numbers.i (pos 0) within) within)
    (ap (λ (m : ℤ). to_z w128 c.numbers.sum-bits +ℤ m) value ∙ plus_set (to_z w128 c.numbers.sum-bits) (bit_at c.args.word c.numbers.i == 1) n) in
    (omega (arith, ints, step, c.numbers.invariant.1, c.numbers.invariant.2), omega (arith, ints, c.numbers.invariant.1, c.numbers.invariant.2), omega (arith, ints, c.numbers.invariant.1, c.numbers.invariant.2))
