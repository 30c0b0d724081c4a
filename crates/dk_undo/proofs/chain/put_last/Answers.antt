-- An entry goes into the first place that is empty.
use Rattle.std.proofs.Common.{◌/◌, ◌%◌, [], ◌∷◌, ◌++◌, length, sym, ap, ◌∙◌, arith}
use Rattle.dk_undo.proofs.PackedLemmas.{packed-at, put-last, places-set}
use Rattle.dk_undo.proofs.chain.put_last.Goals as goal

pub put-requires-clause-behind : goal.put-requires-clause-behind
put-requires-clause-behind g c =
    let n = c.args.len in let cs = c.args.chunks.now.items in let had = c.index_mut.result.now in
    let room = c.requires.room in
    sym (ap (λ h. length h.items) c.index_mut.ensures.value
    ∙ packed-at n (n / 64) (n % 64) cs had c.requires.packed (omega arith) (omega arith) (omega arith))

pub returns-clause-packed : goal.returns-clause-packed
returns-clause-packed g c =
    (put-last c.args.len c.args.chunks.now.items c.index_mut.result.now c.put.new.self c.args.entry c.requires.packed
    c.requires.room (c.put.ensures.items ∙ ap (λ h. h.items ++ c.args.entry ∷ []) c.index_mut.ensures.value)).0

pub returns-clause-entries : goal.returns-clause-entries
returns-clause-entries g c =
    (put-last c.args.len c.args.chunks.now.items c.index_mut.result.now c.put.new.self c.args.entry c.requires.packed
    c.requires.room (c.put.ensures.items ∙ ap (λ h. h.items ++ c.args.entry ∷ []) c.index_mut.ensures.value)).1

pub returns-clause-places : goal.returns-clause-places
returns-clause-places g c =
    places-set c.args.chunks.now.items (c.args.len / 64) c.index_mut.result.now c.put.new.self (c.put.ensures.place
    ∙ ap (λ h. h.place) c.index_mut.ensures.value)
