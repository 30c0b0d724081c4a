use Rattle.std.proofs.Common.{◌++◌, map, Some, None, sym, ap, ◌∙◌, arith}
use Rattle.std.specs.Option.{option_to_list}
use Rattle.dk_turns.proofs.SpareLemmas.{last_full, empty_more}
use Rattle.dk_turns.proofs.spare.empty_slots.Goals as goal

pub loop-slot-preserved : goal.loop-slot-preserved
loop-slot-preserved g c =
    let inv = c.loop-slot.invariant in
    let items = c.pop.ensures.items
    ∙ ap (λ o. c.pop.new.self.items ++ option_to_list o) (c.in-Some.is ∙ ap Some c.in-Some-slot.is) in
    let kept = last_full c.pop.new.self.items (Some c.in-Some-slot.part) inv.full.0 (sym items ∙ inv.full.1) in
    record {
      moved = ap (λ l. c.pop.new.self.items ++ map Some (mathlib.Core.List.reverse l)) c.push_reserved.ensures.items
          ∙ empty_more c.pop.new.self.items c.in-Some-slot.part c.loop-slot.parts.items c.args.slots.now.items
          (ap (λ l. l ++ map Some (mathlib.Core.List.reverse c.loop-slot.parts.items)) (sym items) ∙ inv.moved);
      full = kept.1;
      counted = let p = rw c.in-Some.is at c.pop.ensures.len in
          omega (arith, p, c.push_reserved.ensures.len, inv.counted);
      parts = c.push_reserved.ensures.capacity ∙ inv.parts;
    }

pub unreachable-requires : goal.unreachable-requires
unreachable-requires g c =
    let inv = c.loop-slot.invariant in
    let items = c.pop.ensures.items
    ∙ ap (λ o. c.pop.new.self.items ++ option_to_list o) (c.in-Some.is ∙ ap Some c.in-None.is) in
    let kept = last_full c.pop.new.self.items None inv.full.0 (sym items ∙ inv.full.1) in
    let e = kept.0.1 in cc
