use Rattle.std.proofs.Common.{rules, FitsSigned, ◌∙◌}
use Rattle.std.specs.Int.{w64}
use Rattle.std.proofs.lemmas.Int.{to_z-of_z}
use Rattle.dk_scans.specs.Extremes.{lower_key}
use Rattle.dk_scans.specs.Selection.{in_words}
use Rattle.dk_scans.proofs.FoldLemmas.{folded_more}
use Rattle.dk_scans.proofs.extremes.lowest_key.Goals as goal

pub words-preserved : goal.words-preserved
words-preserved c =
    let result : FitsSigned w64 c.lowest_in_word-lowest.result = search rules in
    to_z-of_z w64 c.lowest_in_word-lowest.result result
    ∙ folded_more (lower_key c.args.extreme) _ _ _ (in_words c.words.k c.args.flags.now c.args.numbers.now) _ _ c.words.invariant c.part_at-part.ensures.next c.lowest_in_word-lowest.ensures
