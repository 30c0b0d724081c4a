-- So many sessions are idle.
use Rattle.std.proofs.Common.{◌≡◌}
use Rattle.std.proofs.Math.ListN.{replicate}
use Rattle.dk_si.specs.Machine.{idle}
use Rattle.dk_states.proofs.machine.idle_sessions.Given as goal

abbrev pub invariant-sessions : goal.invariant-sessions
invariant-sessions l = l.sessions ≡ replicate l._number idle
