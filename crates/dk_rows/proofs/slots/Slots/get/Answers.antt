use Rattle.std.proofs.Common.{length, List, Some, ap, sym, ◌∙◌, arith}
use Rattle.std.specs.Prelude.{slice_get}
use Rattle.dk_rows.specs.declared.slots.Slot.{Slot}
use Rattle.dk_rows.proofs.SlotsLemmas.{slots_len, slot_at}
use Rattle.dk_rows.proofs.slots.Slots.get.Goals as goal

pub index-requires : goal.index-requires
index-requires c =
    let e = ap (λ (xs : List Slot). length xs) c.self.view_is in
    omega (arith, c.requires, c.self.inside.kinds.ok.0, slots_len _ _ c.self.invariant, e)

pub index-requires-2 : goal.index-requires-2
index-requires-2 c =
    let e = ap (λ (xs : List Slot). length xs) c.self.view_is in
    omega (arith, c.requires, c.self.inside.words.ok.0, c.self.invariant, slots_len _ _ c.self.invariant, e)

pub returns : goal.returns
returns c =
    let e = ap (λ (xs : List Slot). length xs) c.self.view_is in
    ap (λ (xs : List Slot). slice_get xs c.args.i) (sym c.self.view_is)
    ∙ slot_at _ _ c.args.i _ _ c.self.invariant (omega (arith, c.requires, slots_len _ _ c.self.invariant, e)) c.index.ensures c.index-2.ensures
    ∙ ap Some (sym c.slot_of.ensures)
