use Rattle.std.proofs.Common.{◌≡◌, ℕ, ◌<◌, ◌≤◌, map, take, Some, true, false, vec_len, vec_capacity}
use Rattle.std.specs.Prelude.{slice_index_or}
use Rattle.std.specs.Mem.Slots.{slots_items, slots_filled, slots_len}
use Rattle.dk_turns.specs.declared.layout.TheConstants.{TURNS}
use Rattle.dk_turns.proofs.lifecycle.unload.Given as goal

abbrev pub invariant-loop-turn : goal.invariant-loop-turn
invariant-loop-turn g l = record {
  items : slots_items l.closed.slots ≡ slots_items l.fn.closed.slots;
  places : slots_len l.closed.slots ≡ TURNS;
  empty : (k : ℕ) → k < l.turn → slice_index_or (slots_filled l.closed.slots) k false ≡ false;
  full : (k : ℕ) → l.turn ≤ k → k < TURNS → slice_index_or (slots_filled l.closed.slots) k false ≡ true;
  taken : map Some l.parts.items ≡ take l.turn (slots_items l.fn.closed.slots);
  counted : vec_len l.parts ≡ l.turn;
  room : vec_capacity l.parts ≡ vec_capacity l.fn.parts;
}
