-- The texts of the codes up to that one.
use Rattle.std.proofs.Common.{◌≡◌, ◌++◌, map, take}
use Rattle.dk_seg_text.specs.Dictionary.{text_with}
use Rattle.dk_seg_text.proofs.dictionary.push_texts.Given as goal

abbrev pub invariant-codes : goal.invariant-codes
invariant-codes l = record {
  kind : l.cells.kind ≡ l.fn.cells.kind;
  values : l.cells.values ≡ l.fn.cells.values ++ map (text_with l.entries) (take l.code-index l.codes);
}
