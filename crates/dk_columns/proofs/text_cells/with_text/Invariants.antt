-- The texts up to the j-th are those with the other text.
use Rattle.std.proofs.Common.{◌≡◌, ◌<◌, take}
use Rattle.std.specs.Prelude.{slice_set}
use Rattle.dk_columns.proofs.text_cells.with_text.Given as goal

abbrev pub invariant-texts : goal.invariant-texts
invariant-texts l = (l.i < l.j) × (l.made ≡ take l.j (slice_set l.texts l.i l.text))
