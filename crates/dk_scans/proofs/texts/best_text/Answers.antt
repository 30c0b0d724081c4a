use Rattle.std.proofs.Common.{◌<◌, Bor, Option, List, ℕ, false, length, get_or, take, ap, sym, ◌∙◌, arith}
use Rattle.std.specs.Prelude.{option_map}
use Rattle.std.proofs.lemmas.Option.{slice_get-get_or}
use Rattle.dk_values.specs.declared.value.Value.TheVariants.{Null}
use Rattle.dk_scans.specs.Extremes.{beats, better, extreme_of, text_less}
use Rattle.dk_scans.specs.Selection.{texts, text_if}
use Rattle.dk_scans.proofs.TextLemmas.{texts_more, better_more}
use Rattle.dk_scans.proofs.texts.best_text.Goals as goal

pub rows-preserved : goal.rows-preserved
rows-preserved c =
    let i : ℕ = c.rows.i in
    let rows = c.args.rows.now in
    let all = c.args.cells.now.values in
    let within : i < length all = omega (arith, c.rows-test.true, c.len-i-end.ensures) in
    let asked : i < length rows = omega (arith, within, c.requires.rows) in
    let goes_before = beats text_less c.args.extreme in
    let before = texts (take i rows) (take i all) in
    let text = text_if (get_or rows i false) (get_or all i Null) in
    c.better-best.ensures
    ∙ ap (λ (best : Option (List ℕ)). better goes_before best (option_map (λ (text : Bor (List ℕ)). text.now) c.text_at.result)) c.rows.invariant
    ∙ ap (better goes_before (extreme_of goes_before before)) c.text_at.ensures.text
    ∙ better_more goes_before before text
    ∙ ap (extreme_of goes_before) (sym (texts_more rows all i (get_or rows i false) (get_or all i Null)
    (slice_get-get_or rows i false asked) (slice_get-get_or all i Null within) c.text_at.ensures.kind asked c.requires.rows))
