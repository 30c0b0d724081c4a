use Rattle.std.proofs.Common.{◌≡◌, ◌++◌, map, reverse, Some, vec_len, vec_capacity, ◌+◌}
use Rattle.dk_turns.proofs.spare.fill_slots.Given as goal

abbrev pub invariant-loop-part : goal.invariant-loop-part
invariant-loop-part g l = record {
  moved : map Some l.parts.items ++ reverse l.slots.items ≡ map Some l.fn.parts.items;
  counted : vec_len l.parts + vec_len l.slots ≡ vec_len l.fn.parts;
  slots : vec_capacity l.slots ≡ vec_capacity l.fn.slots;
  parts : vec_capacity l.parts ≡ vec_capacity l.fn.parts;
}

abbrev pub decreases-loop-part : goal.decreases-loop-part
decreases-loop-part g l = vec_len l.parts
