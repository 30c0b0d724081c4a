-- The last entry leaves its place.
use Rattle.std.proofs.Common.{◌+◌, ◌/◌, ◌%◌, length, sym, ap, ◌∙◌, arith}
use Rattle.dk_undo.proofs.PackedLemmas.{packed-within, packed-at, take-last, places-set}
use Rattle.dk_undo.proofs.chain.take_last.Goals as goal

pub index_mut-requires : goal.index_mut-requires
index_mut-requires g c =
    let cs = c.args.chunks.now in omega (arith, packed-within (c.args.at + 1) cs.items c.requires, cs.ok.0)

pub take-requires : goal.take-requires
take-requires g c =
    let m = c.args.at in let cs = c.args.chunks.now.items in let within = packed-within (m + 1) cs c.requires in
    ap (λ h. length h.items) c.index_mut.ensures.value
    ∙ packed-at (m + 1) (m / 64) (m % 64 + 1) cs c.index_mut.result.now c.requires (omega arith) (omega arith)
    (omega arith)

pub returns-clause-packed : goal.returns-clause-packed
returns-clause-packed g c =
    (take-last c.args.at c.args.chunks.now.items c.index_mut.result.now c.take.new.self c.take.result c.requires
    (sym (ap (λ h. h.items) c.index_mut.ensures.value) ∙ c.take.ensures.items)).0

pub returns-clause-entries : goal.returns-clause-entries
returns-clause-entries g c =
    (take-last c.args.at c.args.chunks.now.items c.index_mut.result.now c.take.new.self c.take.result c.requires
    (sym (ap (λ h. h.items) c.index_mut.ensures.value) ∙ c.take.ensures.items)).1

pub returns-clause-places : goal.returns-clause-places
returns-clause-places g c =
    places-set c.args.chunks.now.items (c.args.at / 64) c.index_mut.result.now c.take.new.self (c.take.ensures.place
    ∙ ap (λ h. h.place) c.index_mut.ensures.value)
