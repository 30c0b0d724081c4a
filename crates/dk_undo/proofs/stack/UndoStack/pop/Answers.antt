-- The newest entry leaves the stack, and its room stays.
use Rattle.std.proofs.Common.{refl, sym, ap, ◌∙◌, arith}
use Rattle.dk_undo.proofs.PackedLemmas.{packed-within, packed-empty, entries-empty, length-placed}
use Rattle.dk_undo.proofs.stack.UndoStack.pop.Goals as goal

pub returns-then-self-eq0-clause-none : goal.returns-then-self-eq0-clause-none
returns-then-self-eq0-clause-none g c =
    let s = c.self.inside in (
      (λ _. ap (λ v. v.entries) (sym c.self.view_is)
          ∙ entries-empty s.chunks.items
          (packed-empty s.len s.chunks.items c.self.invariant.packed c.if-self-eq0.true)),
      (λ _. refl),
    )

pub returns-clause-room : goal.returns-clause-room
returns-clause-room g c =
    let s = c.self.inside in
    omega (
      arith,
      packed-within s.len s.chunks.items c.self.invariant.packed,
      length-placed s.chunks.items
          c.take_last.new.chunks.items c.take_last.ensures.places,
      c.if-self-eq0.false,
      ap (λ v. v.spare) c.self.view_is,
    )
