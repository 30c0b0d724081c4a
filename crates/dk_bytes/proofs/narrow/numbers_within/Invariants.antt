-- The numbers up to the i-th.
use Rattle.std.proofs.Common.{◌≡◌, ◌^◌}
use Rattle.std.specs.Simd.Lanes.{number_l as number, digits_l as digits}
use Rattle.dk_bytes.proofs.narrow.numbers_within.Given as goal

abbrev pub invariant-numbers : goal.invariant-numbers
invariant-numbers l = l.numbers.items ≡ digits (2 ^ l.width) l.i (number 256 l.bytes)
