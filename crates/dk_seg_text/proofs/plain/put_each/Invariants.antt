use Rattle.std.proofs.Common.{◌≡◌, ◌++◌, length, take}
use Rattle.dk_seg_body.specs.Numbers.{AllStandFor, values_for}
use Rattle.dk_seg_text.specs.Plain.{plain_body}
use Rattle.dk_seg_text.proofs.plain.put_each.Given as goal

abbrev pub invariant-numbers : goal.invariant-numbers
invariant-numbers l = record {
  told : l.out.items ++ plain_body (values_for l.kind l.left) ≡ l.fn.out.items ++ plain_body (values_for l.kind l.fn.numbers);
  stand : AllStandFor l.kind l.left;
  kept : take (length l.fn.out.items) l.out.items ≡ l.fn.out.items;
}

abbrev pub decreases-numbers : goal.decreases-numbers
decreases-numbers l = length l.left
