-- The count of the flags that are set in the first k words.
use Rattle.std.proofs.Common.{◌≡◌, ◌*◌, ◌≤◌, length, min}
use Rattle.dk_scans.specs.Selection.{in_words}
use Rattle.dk_scans.proofs.counts.count.Given as goal

abbrev pub invariant-words : goal.invariant-words
invariant-words l =
    (l.count ≡ length (in_words l.k l.flags l.flags)) × (l.count ≤ min (64 * l.k) (length l.flags))
