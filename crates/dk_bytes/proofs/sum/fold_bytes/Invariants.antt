use Rattle.std.proofs.Common.{◌≡◌, length}
use Rattle.dk_bytes.specs.Checksum.{with_bytes}
use Rattle.dk_bytes.proofs.sum.fold_bytes.Given as goal

abbrev pub invariant-words : goal.invariant-words
invariant-words l = with_bytes l.sum l.rest ≡ with_bytes l.fn.start l.fn.bytes

abbrev pub decreases-words : goal.decreases-words
decreases-words l = length l.rest
