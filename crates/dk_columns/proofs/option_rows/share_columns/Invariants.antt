-- The first columns are shared.
use Rattle.std.proofs.Common.{◌≡◌, take}
use Rattle.dk_columns.proofs.option_rows.share_columns.Given as goal

abbrev pub invariant-columns : goal.invariant-columns
invariant-columns l = l.shared.items ≡ take l.column-index l.columns
