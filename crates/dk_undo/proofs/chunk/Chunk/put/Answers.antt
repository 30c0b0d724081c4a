-- An item goes into the first empty place of a chunk.
use Rattle.std.proofs.Common.{length, sym, ap, ◌∙◌, ◌++◌, ◌∷◌, [], arith}
use Rattle.std.proofs.lemmas.Option.{slice_get_past}
use Rattle.dk_undo.proofs.ChunkLemmas.{place_holds, length-slots, put_into}
use Rattle.dk_undo.proofs.chunk.Chunk.put.Goals as goal

pub write-requires : goal.write-requires
write-requires g c =
    let a = c.self.inside in let is = c.self.invariant in
    let here = c.requires.behind ∙ ap (λ h. length h.items) (sym c.self.view_is) in (
      sym is.block.0,
      omega (arith, length-slots a is),
      place_holds a is c.args.index
          ∙ slice_get_past _ c.args.index (omega (arith, here)),
    )

pub invariant_of-self : goal.invariant_of-self
invariant_of-self g c =
    let here = c.requires.behind ∙ ap (λ h. length h.items) (sym c.self.view_is) in
    (put_into c.self.inside c.self.invariant c.write.new.self c.args.index c.args.item here c.requires.room
    c.write.ensures.0 c.write.ensures.1).0

pub returns-clause-items : goal.returns-clause-items
returns-clause-items g c =
    let here = c.requires.behind ∙ ap (λ h. length h.items) (sym c.self.view_is) in
    (put_into c.self.inside c.self.invariant c.write.new.self c.args.index c.args.item here c.requires.room
    c.write.ensures.0 c.write.ensures.1).1
    ∙ ap (λ h. h.items ++ c.args.item ∷ []) c.self.view_is
