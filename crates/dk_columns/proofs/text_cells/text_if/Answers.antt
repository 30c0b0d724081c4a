use Rattle.std.proofs.Common.{[], Bool, true, false, Some, ap, ◌∙◌}
use Rattle.std.proofs.lemmas.Option.{slice_get-get_or}
use Rattle.dk_columns.proofs.OptionsLemmas.{option_at}
use Rattle.dk_columns.proofs.text_cells.text_if.Goals as goal

pub returns-then-get : goal.returns-then-get
returns-then-get c = option_at _ _ c.args.i true _ (c.get.ensures ∙ ap (λ (b : Bool). Some b) c.if-get.true) c.get-then-get.ensures

pub returns-else-get : goal.returns-else-get
returns-else-get c = option_at _ _ c.args.i false _ (c.get.ensures ∙ ap (λ (b : Bool). Some b) c.if-get.false) (slice_get-get_or c.args.texts.now c.args.i [] c.requires.within)
