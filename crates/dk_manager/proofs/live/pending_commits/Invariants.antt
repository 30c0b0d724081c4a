-- The entries so far.
use Rattle.std.proofs.Common.{◌≡◌, length, map, take}
use Rattle.dk_manager.specs.State.{pending_entry}
use Rattle.dk_manager.proofs.live.pending_commits.Given as goal

abbrev pub invariant-entries : goal.invariant-entries
invariant-entries l = (length l.committing ≡ 32) × (take l.i l.committing ≡ map pending_entry (take l.i l.seats))
