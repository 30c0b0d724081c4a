-- The first repeat of all columns is the first one from the i-th column on.
use Rattle.std.proofs.Common.{◌≡◌, take, drop}
use Rattle.dk_values.specs.Columns.{repeat_from, first_repeat}
use Rattle.dk_values.proofs.column.first_repeat.Given as goal

abbrev pub invariant-loop-i : goal.invariant-loop-i
invariant-loop-i l = repeat_from l.i (take l.i l.columns) (drop l.i l.columns) ≡ first_repeat l.columns
