use Rattle.std.proofs.Common.{◌≡◌, ◌++◌, length, take}
use Rattle.std.specs.List.{AllByRecursion}
use Rattle.dk_bytes.specs.PlainValue.{IsPlain, present}
use Rattle.dk_seg_text.specs.Plain.{plain_body}
use Rattle.dk_seg_text.proofs.plain.put_values.Given as goal

abbrev pub invariant-values : goal.invariant-values
invariant-values l = record {
  told : l.out.items ++ plain_body (present l.left) ≡ l.fn.out.items ++ plain_body (present l.fn.values);
  fits : AllByRecursion (IsPlain l.kind) (present l.left);
  kept : take (length l.fn.out.items) l.out.items ≡ l.fn.out.items;
}

abbrev pub decreases-values : goal.decreases-values
decreases-values l = length l.left
