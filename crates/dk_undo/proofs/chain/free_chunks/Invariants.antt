-- The chunks behind those that are kept are empty.
use Rattle.std.proofs.Common.{◌≡◌, drop, take}
use Rattle.dk_undo.specs.Chain.{AreEmpty}
use Rattle.dk_undo.proofs.chain.free_chunks.Given as goal

abbrev pub invariant-loop-chunks : goal.invariant-loop-chunks
invariant-loop-chunks g l = AreEmpty (drop l.keep l.chunks.items)
    × (take l.keep l.chunks.items ≡ take l.keep l.fn.chunks.items)

abbrev pub decreases-loop-chunks : goal.decreases-loop-chunks
decreases-loop-chunks g l = goal.left-loop-chunks g l
