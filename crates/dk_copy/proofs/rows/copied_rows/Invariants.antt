-- The rows so far, with those of the records that are left, are those of all.
use Rattle.std.proofs.Common.{◌≡◌, ◌-◌, ◌≤◌, ℕ, List, Some, length, Bor}
use Rattle.dk_copy.specs.Copied.{behind, rows_from, copied_rows}
use Rattle.dk_copy.specs.Reading.{HasLeft}
use Rattle.dk_copy.proofs.rows.copied_rows.Given as goal

abbrev pub invariant-records : goal.invariant-records
invariant-records l = record {
  left : List (List (List ℕ));
  has : HasLeft (λ (s : Bor (List ℕ)). Some s.now) l.reader (l.turns - l.counter) left;
  within : l.counter ≤ l.turns;
  told : behind l.rows (rows_from l.columns (length l.rows) left) ≡ copied_rows l.schema l.bytes;
}
