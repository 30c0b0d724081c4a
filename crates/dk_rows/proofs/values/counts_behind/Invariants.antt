-- The counts so far and those from the i-th slot on are those from the n-th on.
use Rattle.std.proofs.Common.{◌≡◌, ◌+◌, drop, sum_by}
use Rattle.dk_rows.specs.Values.{text_count, sum_count}
use Rattle.dk_rows.proofs.values.counts_behind.Given as goal

abbrev pub invariant-slots : goal.invariant-slots
invariant-slots l =
    (l.texts + sum_by text_count (drop l.i l.slots) ≡ sum_by text_count (drop l.n l.slots))
    × (l.sums + sum_by sum_count (drop l.i l.slots) ≡ sum_by sum_count (drop l.n l.slots))
