-- The best text of the first i rows.
use Rattle.std.proofs.Common.{◌≡◌, take}
use Rattle.std.specs.Prelude.{option_map}
use Rattle.dk_scans.specs.Extremes.{beats, extreme_of, text_less}
use Rattle.dk_scans.specs.Selection.{texts}
use Rattle.dk_scans.proofs.texts.best_text.Given as goal

abbrev pub invariant-rows : goal.invariant-rows
invariant-rows l =
    option_map (λ text. text.now) l.best ≡ extreme_of (beats text_less l.extreme) (texts (take l.i l.rows) (take l.i l.cells.values))
