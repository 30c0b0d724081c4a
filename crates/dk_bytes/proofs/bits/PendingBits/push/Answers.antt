use Rattle.std.proofs.Common.{arith}
use Rattle.dk_bytes.proofs.JoinedBitsLemmas.{joined_below, above_below}
use Rattle.dk_bytes.proofs.bits.PendingBits.push.Goals as goal

pub invariant_of-self : goal.invariant_of-self
invariant_of-self c = (joined_below _ _ _ _ c.self.invariant.0 c.requires.number c.requires.width c.self.invariant.1, c.if-count-lt64.true)

pub invariant_of-self-2 : goal.invariant_of-self-2
invariant_of-self-2 c = (above_below _ _ (joined_below _ _ _ _ c.self.invariant.0 c.requires.number c.requires.width c.self.invariant.1) c.if-count-lt64.false, omega arith)
