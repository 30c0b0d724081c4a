use Rattle.std.proofs.Common.{◌≡◌, ◌++◌, length, take, drop}
use Rattle.dk_bytes.specs.Bits.{packed, packed_behind}
use Rattle.dk_bytes.proofs.numbers.pack.Given as goal

abbrev pub invariant-loop-number : goal.invariant-loop-number
invariant-loop-number l = record {
  told : l.out.items ++ packed_behind l.pending.number l.pending.count l.width (drop l.number-index l.numbers) ≡ l.fn.out.items ++ packed l.width l.numbers;
  kept : take (length l.fn.out.items) l.out.items ≡ l.fn.out.items;
}
