-- The other entries decide.
use Rattle.std.proofs.Common.{◌≡◌, drop}
use Rattle.dk_si.specs.Machine.{first_state}
use Rattle.dk_si.specs.OneThread.{are_steps_alone}
use Rattle.dk_legal.proofs.alone.are_steps_alone.Given as goal

abbrev pub invariant-loop-entry : goal.invariant-loop-entry
invariant-loop-entry l =
    are_steps_alone l.opened l.machine (drop l.entry-index l.entries) ≡ are_steps_alone l.opened first_state l.entries
