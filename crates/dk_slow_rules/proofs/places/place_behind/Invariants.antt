-- What is left of the row has its place behind the other groups.
use Rattle.std.proofs.Common.{◌≡◌, drop}
use Rattle.dk_slow_rules.specs.Rows.{place_behind}
use Rattle.dk_slow_rules.proofs.places.place_behind.Given as goal

abbrev pub invariant-loop-rows : goal.invariant-loop-rows
invariant-loop-rows l = place_behind (drop l.rows-index l.groups) l.left ≡ place_behind l.groups l.row
