use Rattle.std.proofs.Common.{◌≡◌, ◌+◌, ◌*◌, ◌≤◌, ◌+ℤ◌, ℤ, pos, length, fold, ap, sym, ◌∙◌, rules, FitsSigned, arith}
use mir.Val.{to_z}
use Rattle.std.specs.Int.{w128}
use Rattle.std.proofs.lemmas.Int.{ints}
use Rattle.std.proofs.lemmas.Grind.{div_ceil_times}
use Rattle.dk_scans.specs.Selection.{in_word, in_words}
use Rattle.dk_scans.proofs.FoldLemmas.{folded_more, plus_fold}
use Rattle.dk_scans.proofs.sums.sum.Goals as goal

pub words-preserved : goal.words-preserved
words-preserved c =
    let times = div_ceil_times (length c.args.numbers.now) 64 (omega arith) in
    let within : 64 * c.words.k ≤ length c.args.numbers.now = omega (arith, c.words-test.true, c.div_ceil-k-end.ensures, times.1) in
    let size = c.part_at-part.ensures.len in
    let fits : FitsSigned w128 c.sum_word-sum.result = search rules in
    let step : to_z w128 c.words.sum-bits +ℤ c.sum_word-sum.result ≡ fold ◌+ℤ◌ (pos 0) (in_words (c.words.k + 1) c.args.flags.now c.args.numbers.now) =
    folded_more ◌+ℤ◌ (pos 0) _ _ (in_words c.words.k c.args.flags.now c.args.numbers.now) _ _ c.words.invariant.0 c.part_at-part.ensures.next
    (ap (λ (n : ℤ). to_z w128 c.words.sum-bits +ℤ n) c.sum_word-sum.ensures.sum ∙ sym (plus_fold (to_z w128 c.words.sum-bits) (in_word c.part_at-part.result.word c.part_at-part.result.numbers.now))) in (
      omega (arith, ints, step, c.words.invariant.1, c.words.invariant.2, c.sum_word-sum.ensures.low, c.sum_word-sum.ensures.high, size, within),
      omega (arith, ints, c.words.invariant.1, c.words.invariant.2, c.sum_word-sum.ensures.low, c.sum_word-sum.ensures.high, size, within),
      omega (arith, ints, c.words.invariant.1, c.words.invariant.2, c.sum_word-sum.ensures.low, c.sum_word-sum.ensures.high, size, within),
    )
