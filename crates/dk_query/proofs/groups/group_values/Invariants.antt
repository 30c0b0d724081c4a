-- The values so far, with those of the items that are left, are those of all.
use Rattle.std.proofs.Common.{◌≡◌, drop, ◌++◌}
use Rattle.dk_query.specs.Groups.{group_values}
use Rattle.dk_query.proofs.groups.group_values.Given as goal

abbrev pub invariant-items : goal.invariant-items
invariant-items l = l.values ++ group_values l.group l.place (drop l.place l.items) ≡ group_values l.group 0 l.items
