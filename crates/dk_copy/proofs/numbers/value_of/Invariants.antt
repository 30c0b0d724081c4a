-- The digits that are left go on with the value so far.
use Rattle.std.proofs.Common.{◌≡◌, drop}
use Rattle.dk_copy.specs.Numbers.{value_from}
use Rattle.dk_copy.proofs.numbers.value_of.Given as goal

abbrev pub invariant-digits : goal.invariant-digits
invariant-digits l = value_from l.value (drop l.d-index l.digits) ≡ value_from 0 l.digits
