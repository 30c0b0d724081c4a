use Rattle.std.proofs.Common.{◌≡◌, ◌-◌, ◌≤◌}
use Rattle.dk_values.specs.declared.value.ColType.TheVariants as types
use Rattle.dk_seg_text.specs.Plain.{values_at}
use Rattle.dk_seg_text.proofs.plain.read_texts.Given as goal
use Rattle.dk_bytes.proofs.FrontLemmas.{with_front}

abbrev pub invariant-texts : goal.invariant-texts
invariant-texts l = record {
  kind : l.cells.kind ≡ l.fn.cells.kind;
  told : with_front l.cells.values (values_at types.Text (l.count - l.counter) l.cursor) ≡ values_at types.Text l.count l.fn.cursor;
  within : l.counter ≤ l.count;
}
