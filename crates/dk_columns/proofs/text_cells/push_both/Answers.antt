use Rattle.std.proofs.Common.{◌++◌, ◌∷◌, [], ℕ, List, Option, ap, ◌∙◌}
use Rattle.dk_columns.specs.Options.{options}
use Rattle.dk_columns.proofs.OptionsLemmas.{options_more}
use Rattle.dk_columns.proofs.text_cells.push_both.Goals as goal

pub returns-in-Ok-clause-ok : goal.returns-in-Ok-clause-ok
returns-in-Ok-clause-ok c =
    rw (c.in-Ok.ensures.ok, c.in_ok-push.ensures.ok, c.is_some.ensures)
    (options_more _ _ _ _ c.requires ∙ ap (λ (o : Option (List ℕ)). options c.args.present.now c.args.texts.now ++ o ∷ []) c.kept_text.ensures)
