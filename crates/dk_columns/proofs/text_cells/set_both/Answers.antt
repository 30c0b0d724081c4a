use Rattle.std.proofs.Common.{ℕ, List, Option, ap, ◌∙◌}
use Rattle.std.specs.Prelude.{slice_set}
use Rattle.dk_columns.specs.Options.{options}
use Rattle.dk_columns.proofs.OptionsLemmas.{options_set}
use Rattle.dk_columns.proofs.text_cells.set_both.Goals as goal

pub returns-clause-ok : goal.returns-clause-ok
returns-clause-ok c =
    rw (c.in_ok-set.ensures.ok, c.in_ok-made.ensures, c.is_some.ensures)
    (options_set _ _ _ _ _ ∙ ap (λ (o : Option (List ℕ)). slice_set (options c.args.present.now c.args.texts.now) c.args.i o) c.kept_text.ensures)
