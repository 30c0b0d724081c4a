-- So many groups are full.
use Rattle.std.proofs.Common.{◌≡◌}
use Rattle.std.proofs.Math.ListN.{replicate}
use Rattle.dk_si.specs.declared.limits.TheConstants.{GROUP_ROWS}
use Rattle.dk_slow_seats.proofs.layout.full_groups.Given as goal

abbrev pub invariant-groups : goal.invariant-groups
invariant-groups l = l.groups ≡ replicate l._group GROUP_ROWS
