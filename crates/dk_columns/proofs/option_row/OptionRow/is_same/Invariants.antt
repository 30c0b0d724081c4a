-- The rows are the same up to the j-th value.
use Rattle.std.proofs.Common.{◌≡◌, take}
use Rattle.dk_columns.proofs.option_row.OptionRow.is_same.Given as goal

abbrev pub invariant-cells : goal.invariant-cells
invariant-cells l = take l.j l.self ≡ take l.j l.other
