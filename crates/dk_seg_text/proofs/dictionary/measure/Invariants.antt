use Rattle.std.proofs.Common.{◌≡◌, ◌*◌, ◌≤◌, map, take, drop, length}
use Rattle.std.specs.List.{AllByRecursion, flat_map}
use Rattle.dk_values.specs.declared.value.ColType.TheVariants as types
use Rattle.dk_bytes.specs.PlainValue.{IsPlain, present}
use Rattle.dk_seg_text.specs.Dictionary.{text_of, entries_of, entry_bytes}
use Rattle.dk_seg_text.proofs.dictionary.measure.Given as goal

abbrev pub invariant-values : goal.invariant-values
invariant-values l = record {
  count : l.count ≡ length (entries_of (map text_of (present (take l.i l.values))));
  len : l.len ≡ length (flat_map entry_bytes (entries_of (map text_of (present (take l.i l.values)))));
  fits : AllByRecursion (IsPlain types.Text) (present (drop l.i l.values));
  few : l.count ≤ 65535;
  small : l.len ≤ 65537 * l.count;
}
