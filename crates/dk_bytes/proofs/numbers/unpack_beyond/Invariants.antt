use Rattle.std.proofs.Common.{◌≡◌, ◌++◌, ◌-◌, ◌*◌, ◌/◌, ◌^◌, ◌≤◌}
use Rattle.std.specs.Simd.Lanes.{number_l as number, digits_l as digits}
use Rattle.dk_bytes.proofs.numbers.unpack_beyond.Given as goal

abbrev pub invariant-numbers : goal.invariant-numbers
invariant-numbers l = record {
  told : l.numbers.items ++ digits (2 ^ l.width) (l.count - l.counter) l.reader ≡ digits (2 ^ l.width) l.count (number 256 l.bytes);
  behind : l.reader / 2 ^ (l.width * (l.count - l.counter)) ≡ number 256 l.bytes / 2 ^ (l.width * l.count);
  within : l.counter ≤ l.count;
}
