use Rattle.std.proofs.Common.{◌≡◌, ◌≤◌, drop}
use Rattle.dk_seg_text.specs.Dictionary.{used_behind}
use Rattle.dk_seg_text.proofs.dictionary.are_all_used.Given as goal

abbrev pub invariant-codes : goal.invariant-codes
invariant-codes l = record {
  told : used_behind l.used (drop l.code-index l.codes) ≡ used_behind 0 l.codes;
  within : l.used ≤ l.code-index;
}
