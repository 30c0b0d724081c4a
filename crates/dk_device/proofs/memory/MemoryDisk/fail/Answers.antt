-- A call that leaves nothing in the list moves time alone.
use Rattle.std.proofs.Common.{arith}
use Rattle.dk_device.proofs.ReplayLemmas.{stands_later}
use Rattle.dk_device.proofs.memory.MemoryDisk.fail.Goals as goal

pub invariant_of-self : goal.invariant_of-self
invariant_of-self c =
    let inside = c.self.inside in
    stands_later inside.main inside.wal inside.calls.items inside.moment c.min-self-inside.result
    (omega (arith, c.self.invariant.bound)) (omega (arith, c.self.invariant.bound)) c.self.invariant
