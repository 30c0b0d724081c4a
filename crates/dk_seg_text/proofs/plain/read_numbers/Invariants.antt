use Rattle.std.proofs.Common.{◌≡◌, ◌-◌, ◌≤◌}
use Rattle.std.specs.List.{All}
use Rattle.dk_seg_body.specs.Numbers.{StandsFor, values_for}
use Rattle.dk_seg_text.specs.Plain.{values_at}
use Rattle.dk_seg_text.proofs.plain.read_numbers.Given as goal
use Rattle.dk_bytes.proofs.FrontLemmas.{with_front}

abbrev pub invariant-numbers : goal.invariant-numbers
invariant-numbers l = record {
  told : with_front (values_for l.kind l.numbers.items) (values_at l.kind (l.count - l.counter) l.cursor) ≡ values_at l.kind l.count l.fn.cursor;
  stand : All (StandsFor l.kind) l.numbers.items;
  within : l.counter ≤ l.count;
}
