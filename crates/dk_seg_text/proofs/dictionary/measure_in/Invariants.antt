use Rattle.std.proofs.Common.{◌≡◌, ◌*◌, ◌≤◌, map, length}
use Rattle.std.specs.List.{AllByRecursion, flat_map}
use Rattle.dk_values.specs.declared.value.ColType.TheVariants as types
use Rattle.dk_bytes.specs.PlainValue.{IsPlain, present}
use Rattle.dk_seg_text.specs.Dictionary.{text_of, entries_of, entries_behind, entry_bytes}
use Rattle.dk_seg_text.proofs.dictionary.measure_in.Given as goal

abbrev pub invariant-values : goal.invariant-values
invariant-values l = record {
  rest : entries_behind l.entries (map text_of (present l.left)) ≡ entries_of (map text_of (present l.fn.values));
  count : l.count ≡ length l.entries;
  len : l.len ≡ length (flat_map entry_bytes l.entries);
  fits : AllByRecursion (IsPlain types.Text) (present l.left);
  few : l.count ≤ 65535;
  small : l.len ≤ 65537 * l.count;
}

abbrev pub decreases-values : goal.decreases-values
decreases-values l = length l.left
