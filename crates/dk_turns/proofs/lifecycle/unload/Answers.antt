use Rattle.std.proofs.Common.{◌≡◌, ◌+◌, ◌∷◌, [], ◌++◌, take, Some, false, rules, refl, sym, ap, ◌∙◌, arith}
use mathlib.Core.Option.{some}
use lib.ListN.{get_elem?}
use Rattle.dk_turns.proofs.UnloadLemmas.{emptied, still_full, take_at, map_some-snoc, value_at}
use Rattle.dk_turns.proofs.lifecycle.unload.Goals as goal

pub unwrap-requires : goal.unwrap-requires
unwrap-requires g c =
    let i = c.loop-turn.invariant in
    let home = c.requires.home.1 c.loop-turn.turn (omega arith) in
    rw (value_at _ _ c.loop-turn.turn c.take.result home.0 c.take.ensures.value i.items home.1) refl

pub loop-turn-preserved : goal.loop-turn-preserved
loop-turn-preserved g c =
    let i = c.loop-turn.invariant in
    let t = c.loop-turn.turn in
    let at = ap (λ l. get_elem? l t) (sym i.items) ∙ c.take.ensures.value ∙ ap some c.unwrap.ensures in
    let others = c.take.ensures.others in
    record {
      items = others.0 ∙ i.items;
      places = others.2 ∙ i.places;
      empty = emptied _ _ t others.1 i.empty;
      full = still_full _ _ t others.1 i.full;
      taken = ap (λ l. Rattle.std.proofs.Common.map Some l) c.push_reserved.ensures.items
          ∙ map_some-snoc _ _ _ i.taken ∙ sym (take_at _ t (Some c.unwrap.result) at);
      counted = omega (arith, c.push_reserved.ensures.len, i.counted);
      room = c.push_reserved.ensures.capacity ∙ i.room;
    }
