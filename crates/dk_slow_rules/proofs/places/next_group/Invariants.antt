-- The other groups lead to the same one.
use Rattle.std.proofs.Common.{◌≡◌, drop}
use Rattle.dk_slow_rules.specs.Rows.{next_from}
use Rattle.dk_slow_rules.proofs.places.next_group.Given as goal

abbrev pub invariant-loop-before : goal.invariant-loop-before
invariant-loop-before l = next_from l.before l.next (drop l.before l.groups) ≡ next_from 0 0 l.groups
