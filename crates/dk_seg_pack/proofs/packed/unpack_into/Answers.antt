use Rattle.std.proofs.Common.{arith, rules, FitsSigned, ◌∙◌}
use Rattle.std.specs.Int.{w64}
use Rattle.std.proofs.lemmas.Int.{to_z-of_z}
use Rattle.dk_seg_pack.proofs.AboveLemmas.{put_number, more_least, more_greatest}
use Rattle.dk_seg_pack.proofs.packed.unpack_into.Goals as goal

pub numbers-preserved : goal.numbers-preserved
numbers-preserved c =
    let fits : FitsSigned w64 c.number_above.result = search rules in
    record {
      numbers = put_number _ _ _ _ c.number_at-difference.ensures _ _ _ (omega (arith, c.numbers.auto.numbers, c.numbers-test.true)) (to_z-of_z w64 c.number_above.result fits ∙ c.number_above.ensures) c.numbers.invariant.numbers;
      least = c.min-least.ensures ∙ more_least _ _ _ _ c.number_at-difference.ensures _ c.numbers.invariant.least;
      greatest = c.max-greatest.ensures ∙ more_greatest _ _ _ _ c.number_at-difference.ensures _ c.numbers.invariant.greatest;
    }
