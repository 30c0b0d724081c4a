-- The chunks of a stack without entries are empty.
use Rattle.std.proofs.Common.{length, sym, ap, ◌∙◌}
use Rattle.dk_undo.proofs.PackedLemmas.{length-entries, packed-empty}
use Rattle.dk_undo.proofs.stack.UndoStack.destroy_empty.Goals as goal

pub free_chunks-requires : goal.free_chunks-requires
free_chunks-requires g c =
    let s = c.self.inside in let p = c.self.invariant.packed in
    packed-empty s.len s.chunks.items p (sym (length-entries s.len s.chunks.items p)
    ∙ ap (λ v. length v.entries) c.self.view_is ∙ ap length c.requires)
