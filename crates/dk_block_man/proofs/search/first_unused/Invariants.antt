-- All flags up to here are set.
use Rattle.std.proofs.Common.{length, ◌-◌}
use Rattle.dk_block_man.specs.Used.{AllUsed}
use Rattle.dk_block_man.proofs.search.first_unused.Given as goal

abbrev pub invariant-places : goal.invariant-places
invariant-places l = AllUsed l.block l.flags

abbrev pub decreases-places : goal.decreases-places
decreases-places l = length l.flags - l.block
