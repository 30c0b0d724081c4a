use Rattle.std.proofs.Common.{◌≡◌, ◌++◌, map, reverse, Some, vec_len, vec_capacity, ◌+◌}
use Rattle.dk_turns.proofs.spare.empty_slots.Given as goal

abbrev pub invariant-loop-slot : goal.invariant-loop-slot
invariant-loop-slot g l = record {
  moved : l.slots.items ++ map Some (reverse l.parts.items) ≡ l.fn.slots.items;
  full : (xs : _) × (l.slots.items ≡ map Some xs);
  counted : vec_len l.parts + vec_len l.slots ≡ vec_len l.fn.slots;
  parts : vec_capacity l.parts ≡ vec_capacity l.fn.parts;
}

abbrev pub decreases-loop-slot : goal.decreases-loop-slot
decreases-loop-slot g l = vec_len l.slots
