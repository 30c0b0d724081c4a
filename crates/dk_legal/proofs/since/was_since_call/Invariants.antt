-- The other entries decide.
use Rattle.std.proofs.Common.{◌≡◌, drop}
use Rattle.dk_legal.specs.Claims.{claim_holds}
use Rattle.dk_si.specs.StatesSince.{was_so, was_since_call}
use Rattle.dk_legal.proofs.since.was_since_call.Given as goal

abbrev pub invariant-loop-entry : goal.invariant-loop-entry
invariant-loop-entry l =
    was_so (claim_holds l.opened l.number l.claim) l.opened l.number l.machine l.so (drop l.entry-index l.before)
    ≡ was_since_call (claim_holds l.opened l.number l.claim) l.opened l.number l.before
