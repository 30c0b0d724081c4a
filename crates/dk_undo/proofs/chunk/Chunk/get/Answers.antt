-- The item at a place of a chunk.
use Rattle.std.proofs.Common.{length, slice_get, sym, ap, ◌∙◌, arith}
use Rattle.dk_undo.proofs.ChunkLemmas.{item_at, place_holds}
use Rattle.dk_undo.proofs.chunk.Chunk.get.Goals as goal

pub get-requires : goal.get-requires
get-requires g c =
    let a = c.self.inside in let is = c.self.invariant in
    let long = ap (λ h. length h.items) c.self.view_is in
    let on = item_at _ c.args.index (omega (arith, c.requires, long)) in
    (sym is.block.0, (on.0, place_holds a is c.args.index ∙ on.1))

pub returns : goal.returns
returns g c =
    ap (λ h. slice_get h.items c.args.index) (sym c.self.view_is)
    ∙ sym (place_holds c.self.inside c.self.invariant c.args.index) ∙ c.get.ensures
