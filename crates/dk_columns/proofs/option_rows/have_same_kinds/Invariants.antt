-- The first types are the same.
use Rattle.std.proofs.Common.{◌≡◌, take}
use Rattle.dk_columns.specs.OptionTables.{kinds_of}
use Rattle.dk_columns.proofs.option_rows.have_same_kinds.Given as goal

abbrev pub invariant-columns : goal.invariant-columns
invariant-columns l = take l.j (kinds_of l.columns) ≡ take l.j (kinds_of l.others)
