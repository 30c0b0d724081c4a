-- The numbers, the least and the greatest difference up to the i-th.
use Rattle.std.proofs.Common.{◌≡◌, map, take}
use Rattle.dk_bytes.specs.Bits.{unpacked}
use Rattle.dk_seg_pack.specs.Packed.{least, greatest}
use Rattle.dk_seg_pack.specs.Above.{number_above}
use Rattle.dk_seg_pack.proofs.packed.unpack_into.Given as goal

abbrev pub invariant-numbers : goal.invariant-numbers
invariant-numbers l = record {
  numbers : take l.i l.numbers ≡ map (number_above l.frame.base) (unpacked l.frame.width l.i l.bytes);
  least : l.least ≡ least (unpacked l.frame.width l.i l.bytes);
  greatest : l.greatest ≡ greatest (unpacked l.frame.width l.i l.bytes);
}
