use Rattle.std.proofs.Common.{◌≡◌, ◌≤◌, length}
use Rattle.dk_bytes.specs.PlainValue.{present}
use Rattle.dk_bytes.proofs.present.split_present.Given as goal

abbrev pub invariant-values : goal.invariant-values
invariant-values l = record {
  told : present l.left ≡ present l.values;
  within : length l.left ≤ length l.values;
}

abbrev pub decreases-values : goal.decreases-values
decreases-values l = length l.left
