-- The other entries decide.
use Rattle.std.proofs.Common.{◌≡◌, [], take, drop}
use Rattle.dk_si.specs.Machine.{first_state}
use Rattle.dk_si.specs.IsStep.{are_steps}
use Rattle.dk_legal.proofs.step.are_steps.Given as goal

abbrev pub invariant-loop-i : goal.invariant-loop-i
invariant-loop-i l = are_steps l.opened (take l.i l.entries) l.machine (drop l.i l.entries)
    ≡ are_steps l.opened [] first_state l.entries
