-- The tables so far have their groups.
use Rattle.std.proofs.Common.{◌≡◌, ◌++◌, drop}
use Rattle.dk_core.specs.Layout.{layout_of}
use Rattle.dk_slow_seats.proofs.layout.layout_of.Given as goal

abbrev pub invariant-loop-table : goal.invariant-loop-table
invariant-loop-table l = l.layout.items ++ layout_of (drop l.table-index l.tables) ≡ layout_of l.tables
