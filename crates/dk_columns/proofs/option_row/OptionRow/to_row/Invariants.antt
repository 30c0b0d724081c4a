-- What is copied so far is the front of the row.
use Rattle.std.proofs.Common.{◌≡◌, take}
use Rattle.dk_columns.proofs.option_row.OptionRow.to_row.Given as goal

abbrev pub invariant-cells : goal.invariant-cells
invariant-cells l = l.row ≡ take l.j l.self
