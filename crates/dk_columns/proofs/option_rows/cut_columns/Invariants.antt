-- The columns up to the j-th are cut.
use Rattle.std.proofs.Common.{◌≡◌, length}
use Rattle.dk_columns.specs.OptionTables.{SameFront}
use Rattle.dk_columns.proofs.option_rows.cut_columns.Given as goal

abbrev pub invariant-columns : goal.invariant-columns
invariant-columns l = SameFront l.n l.fn.columns.items l.columns.items × (length l.columns.items ≡ length l.fn.columns.items)
