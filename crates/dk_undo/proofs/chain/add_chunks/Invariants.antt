-- The chunks that were added so far are empty and stand behind the others.
use Rattle.dk_undo.specs.Chain.{Grows}
use Rattle.dk_undo.proofs.chain.add_chunks.Given as goal

abbrev pub invariant-loop-added : goal.invariant-loop-added
invariant-loop-added g l = Grows l.fn.chunks.items l.chunks.items l._added
