-- The entries are as many as the places that are filled.
use Rattle.std.proofs.Common.{length, sym, ap, ◌∙◌}
use Rattle.dk_undo.proofs.PackedLemmas.{length-entries}
use Rattle.dk_undo.proofs.stack.UndoStack.len.Goals as goal

pub returns : goal.returns
returns g c = sym (length-entries _ _ c.self.invariant.packed) ∙ ap (λ s. length s.entries) c.self.view_is
