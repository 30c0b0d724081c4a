use Rattle.std.proofs.Common.{◌==◌, ◌<◌, ℤ, pos, Bool, [], ◌∷◌, length, take, get_or, fold, ap, sym, ◌∙◌, rules, FitsSigned, arith}
use Rattle.std.specs.Int.{w64, bit_at}
use mir.Val.{to_z}
use Rattle.std.proofs.lemmas.Int.{to_z-of_z}
use Rattle.std.proofs.lemmas.Option.{slice_get-get_or}
use Rattle.dk_scans.specs.Extremes.{lower_key}
use Rattle.dk_scans.specs.Selection.{select, bits}
use Rattle.dk_scans.proofs.FoldLemmas.{select_more, all_bits, folded_more}
use Rattle.dk_scans.proofs.extremes.lowest_in_word.Goals as goal

pub returns-then-word-eq18446744073709551615 : goal.returns-then-word-eq18446744073709551615
returns-then-word-eq18446744073709551615 c =
    let fits : FitsSigned w64 c.lowest_of.result = search rules in
    let first : FitsSigned w64 c.args.first = search rules in
    to_z-of_z w64 c.lowest_of.result fits ∙ c.lowest_of.ensures ∙ ap (λ (n : ℤ). fold (lower_key c.args.extreme) n c.args.numbers.now) (to_z-of_z w64 c.args.first first)
    ∙ sym (ap (fold (lower_key c.args.extreme) c.args.first) (all_bits (pos 0) c.args.numbers.now c.args.word c.if-word-eq18446744073709551615.true c.requires))

pub numbers-preserved : goal.numbers-preserved
numbers-preserved c =
    let lower = lower_key c.args.extreme in
    let n : ℤ = get_or c.args.numbers.now c.numbers.i (pos 0) in
    let number : FitsSigned w64 n = search rules in
    let result : FitsSigned w64 c.lower_if-lowest.result = search rules in
    let within : c.numbers.i < length c.args.numbers.now = omega (arith, c.numbers-test.true) in
    to_z-of_z w64 c.lower_if-lowest.result result
    ∙ folded_more lower _ _ _ (select (bits c.numbers.i c.args.word) (take c.numbers.i c.args.numbers.now)) (select ((bit_at c.args.word c.numbers.i == 1) ∷ []) (n ∷ [])) _ c.numbers.invariant
    (select_more c.args.numbers.now c.args.word c.numbers.i n (slice_get-get_or c.args.numbers.now c.numbers.i (pos 0) within) within)
    (c.lower_if-lowest.ensures ∙ ap (λ (m : ℤ). fold lower (to_z w64 c.numbers.lowest-bits) (select (c.is_set.result ∷ []) (m ∷ []))) (to_z-of_z w64 n number)
    ∙ ap (λ (b : Bool). fold lower (to_z w64 c.numbers.lowest-bits) (select (b ∷ []) (n ∷ []))) c.is_set.ensures)
