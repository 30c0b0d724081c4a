use Rattle.std.proofs.Common.{◌≡◌, ◌++◌, [], map, length}
use Rattle.dk_bytes.specs.PlainValue.{present}
use Rattle.dk_seg_text.specs.Dictionary.{text_of, entries_behind, codes_behind}
use Rattle.dk_seg_text.proofs.dictionary.coded.Given as goal

abbrev pub invariant-values : goal.invariant-values
invariant-values l = record {
  told : entries_behind l.entries (map text_of (present l.left)) ≡ entries_behind [] (map text_of (present l.fn.values));
  codes : l.codes.items ++ codes_behind l.entries (map text_of (present l.left)) ≡ codes_behind [] (map text_of (present l.fn.values));
}

abbrev pub decreases-values : goal.decreases-values
decreases-values l = length l.left
