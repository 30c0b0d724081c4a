-- The place of an entry that is counted from the newest.
use Rattle.std.proofs.Common.{◌≡◌, ℕ, ◌-◌, ◌/◌, ◌%◌, ◌<◌, length, slice_get, sym, ap, ◌∙◌, subst, arith}
use Rattle.dk_undo.proofs.PackedLemmas.{length-entries, below-packed, packed-within, entry-at}
use Rattle.dk_undo.proofs.stack.UndoStack.newest.Goals as goal

pub overflow_sub-at : goal.overflow_sub-at
overflow_sub-at g c =
    let s = c.self.inside in
    omega (
      arith,
      below-packed s.len c.args.i s.chunks.items _ c.self.invariant.packed
          (ap (λ v. v.entries) c.self.view_is) c.requires,
    )

pub overflow_sub-at-2 : goal.overflow_sub-at-2
overflow_sub-at-2 g c =
    let s = c.self.inside in
    omega (
      arith,
      below-packed s.len c.args.i s.chunks.items _ c.self.invariant.packed
          (ap (λ v. v.entries) c.self.view_is) c.requires,
    )

pub index-requires : goal.index-requires
index-requires g c =
    let s = c.self.inside in
    omega (
      arith,
      below-packed s.len c.args.i s.chunks.items _ c.self.invariant.packed (ap (λ v. v.entries) c.self.view_is)
          c.requires,
      packed-within s.len s.chunks.items c.self.invariant.packed,
      s.chunks.ok.0,
    )

pub get-requires : goal.get-requires
get-requires g c =
    let s = c.self.inside in let n = s.len in let at : ℕ = n - 1 - c.args.i in let had = c.index.result.now in
    let few : c.args.i < n = below-packed n c.args.i s.chunks.items _ c.self.invariant.packed
    (ap (λ v. v.entries) c.self.view_is) c.requires in
    let on = entry-at n (at / 64) (at % 64) at s.chunks.items had c.self.invariant.packed (omega arith) (omega arith)
    (omega arith) in
    subst (λ h. at % 64 < length h.items) (sym c.index.ensures) on.1

pub returns : goal.returns
returns g c =
    let s = c.self.inside in let n = s.len in let at : ℕ = n - 1 - c.args.i in let had = c.index.result.now in
    let many : length c.args.self.now.entries ≡ n = ap (λ v. length v.entries) (sym c.self.view_is)
    ∙ length-entries n s.chunks.items c.self.invariant.packed in
    let few : c.args.i < n = omega (arith, c.requires) in
    let on = entry-at n (at / 64) (at % 64) at s.chunks.items had c.self.invariant.packed (omega arith) (omega arith)
    (omega arith) in
    (λ j. slice_get ((ap (λ v. v.entries) (sym c.self.view_is)) j) (many j - 1 - c.args.i)) ∙ on.2
    ∙ ap (λ h. slice_get h.items (at % 64)) (sym c.index.ensures) ∙ c.get.ensures
