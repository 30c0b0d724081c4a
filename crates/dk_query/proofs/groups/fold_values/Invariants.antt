-- What is taken so far, with the values of the lines that are left, comes to what all come to; and no more values were
-- taken than lines.
use Rattle.std.proofs.Common.{◌≡◌, ◌≤◌, drop}
use Rattle.std.specs.Prelude.{fold}
use Rattle.dk_eval.specs.Aggregates.{take_value, nothing}
use Rattle.dk_query.specs.Groups.{values_at}
use Rattle.dk_query.proofs.groups.fold_values.Given as goal

abbrev pub invariant-lines : goal.invariant-lines
invariant-lines l = record {
  all : fold take_value l.taken (values_at l.place (drop l.line-index l.group))
      ≡ fold take_value (nothing l.fn.kind) (values_at l.place l.group);
  few : l.taken.seen ≤ l.line-index;
}
