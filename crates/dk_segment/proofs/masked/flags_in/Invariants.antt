-- The flags up to the i-th.
use Rattle.std.proofs.Common.{◌≡◌, map, take}
use Rattle.dk_bytes.specs.PlainValue.{bit_byte}
use Rattle.dk_segment.proofs.masked.flags_in.Given as goal

abbrev pub invariant-flags : goal.invariant-flags
invariant-flags l = l.flags.items ≡ map bit_byte (take l.i l.present)
