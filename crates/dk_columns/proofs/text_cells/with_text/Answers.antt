use Rattle.std.proofs.Common.{◌++◌, ◌∷◌, [], ℕ, List, ap, sym, ◌∙◌, arith}
use Rattle.std.specs.Prelude.{slice_set}
use Rattle.dk_rows.proofs.RowLemmas.{take_more}
use Rattle.dk_columns.proofs.OptionsLemmas.{set_other_at}
use Rattle.dk_columns.proofs.text_cells.with_text.Goals as goal

pub texts-preserved : goal.texts-preserved
texts-preserved c = (
  omega (arith, c.texts.invariant.0),
  c.in_ok-push-2.ensures.ok ∙ ap (λ (ts : List (List ℕ)). ts ++ c.get.result.now ∷ []) c.texts.invariant.1
      ∙ sym (take_more (slice_set c.args.texts.now c.args.i c.args.text.now) c.texts.j c.get.result.now (set_other_at c.args.texts.now _ _ _ _ c.texts.invariant.0 c.get.ensures)),
)
