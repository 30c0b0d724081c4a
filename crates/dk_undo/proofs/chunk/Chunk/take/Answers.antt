-- The last item leaves its place in a chunk.
use Rattle.std.proofs.Common.{length, sym, ap, ◌∙◌, arith}
use Rattle.dk_undo.proofs.ChunkLemmas.{item_at, place_holds, taken_from}
use Rattle.dk_undo.proofs.chunk.Chunk.take.Goals as goal

pub read-requires : goal.read-requires
read-requires g c =
    let a = c.self.inside in let is = c.self.invariant in
    let here = ap (λ h. length h.items) c.self.view_is ∙ c.requires in
    let on = item_at _ c.args.index (omega (arith, here)) in
    (sym is.block.0, (on.0, place_holds a is c.args.index ∙ on.1))

pub invariant_of-self : goal.invariant_of-self
invariant_of-self g c =
    let here = ap (λ h. length h.items) c.self.view_is ∙ c.requires in let read = c.read.ensures in
    (taken_from c.self.inside c.self.invariant c.read.new.self c.args.index c.read.result here read.slots.0
    read.slots.1 read.value).0

pub returns-clause-items : goal.returns-clause-items
returns-clause-items g c =
    let here = ap (λ h. length h.items) c.self.view_is ∙ c.requires in let read = c.read.ensures in
    ap (λ h. h.items) (sym c.self.view_is)
    ∙ (taken_from c.self.inside c.self.invariant c.read.new.self c.args.index c.read.result here read.slots.0
    read.slots.1 read.value).1
