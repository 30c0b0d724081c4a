-- No more places are filled than there are.
use Rattle.std.proofs.Common.{arith}
use Rattle.dk_undo.proofs.PackedLemmas.{packed-within}
use Rattle.dk_undo.proofs.stack.UndoStack.spare.Goals as goal

pub overflow_sub-result : goal.overflow_sub-result
overflow_sub-result g c =
    let s = c.self.inside in
    omega (arith, packed-within s.len s.chunks.items c.self.invariant.packed, s.chunks.ok.0, c.len.ensures)
