-- What is copied so far is the front of the tables.
use Rattle.std.proofs.Common.{◌≡◌, take}
use Rattle.dk_plain.proofs.database.copy_of.Given as goal

abbrev pub invariant-loop-table : goal.invariant-loop-table
invariant-loop-table l = l.copy.items ≡ take l.table-index l.tables
