use Rattle.std.proofs.Common.{◌≡◌, ◌++◌, take, length}
use Rattle.std.specs.List.{flat_map}
use Rattle.dk_seg_text.specs.Dictionary.{entry_bytes}
use Rattle.dk_seg_text.proofs.entries.Entries.put.Given as goal

abbrev pub invariant-texts : goal.invariant-texts
invariant-texts l = record {
  told : l.out.items ≡ l.fn.out.items ++ flat_map entry_bytes (take l.code l.self);
  kept : take (length l.fn.out.items) l.out.items ≡ l.fn.out.items;
}
