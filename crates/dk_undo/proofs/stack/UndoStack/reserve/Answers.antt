-- The chunks that are added give the room that was asked for.
use Rattle.std.proofs.Common.{◌≡◌, ◌-◌, ◌*◌, length, ap, ◌∙◌, arith}
use Rattle.dk_undo.specs.Stack.{stack, reserved}
use Rattle.dk_undo.proofs.PackedLemmas.{packed-within, grows-length, grows-packed, grows-entries}
use Rattle.dk_undo.proofs.stack.UndoStack.reserve.Goals as goal

pub invariant_of-self-2 : goal.invariant_of-self-2
invariant_of-self-2 g c =
    let s = c.self.inside in let new = c.add_chunks.new.chunks in let grown = c.in_ok-add_chunks.ensures.ok in
    record {
      packed = grows-packed s.len s.chunks.items new.items _ grown c.self.invariant.packed;
      within = omega (
        arith,
        grows-length s.chunks.items new.items _ grown,
        c.if-missing-len.false,
        c.len.ensures,
        s.chunks.ok.0,
      );
    }

pub returns-clause-room : goal.returns-clause-room
returns-clause-room g c =
    let s = c.self.inside in let new = c.add_chunks.new.chunks in let grown = c.in_ok-add_chunks.ensures.ok in
    omega (
      arith,
      packed-within s.len s.chunks.items c.self.invariant.packed,
      grows-length s.chunks.items new.items _
          grown,
      c.div_ceil-missing.ensures,
      c.saturating_sub.ensures,
      c.spare.ensures,
      ap (λ v. v.spare) c.self.view_is,
    )

pub returns-clause-ok : goal.returns-clause-ok
returns-clause-ok g c =
    let s = c.self.inside in let new = c.add_chunks.new.chunks in let grown = c.in_ok-add_chunks.ensures.ok in
    let left : 64 * length new.items - s.len ≡ reserved c.args.self.now.spare c.args.n =
    omega (
      arith,
      packed-within s.len s.chunks.items c.self.invariant.packed,
      grows-length s.chunks.items new.items _
          grown,
      c.div_ceil-missing.ensures,
      c.saturating_sub.ensures,
      c.spare.ensures,
      ap (λ v. v.spare) c.self.view_is,
    ) in
    (λ j. stack ((grows-entries s.chunks.items new.items _ grown ∙ ap (λ v. v.entries) c.self.view_is) j) (left j))
