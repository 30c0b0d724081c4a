use Rattle.std.proofs.Common.{◌≡◌, ◌+◌, ◌<◌, ◌^◌, ◌↔◌, length}
use Rattle.std.specs.List.{AllByRecursion}
use Rattle.dk_bytes.specs.PlainValue.{IsPlain, present}
use Rattle.dk_seg_text.specs.Plain.{plain_body}
use Rattle.dk_seg_text.proofs.plain.PlainBody.size.Given as goal

abbrev pub invariant-values : goal.invariant-values
invariant-values l = record {
  told : l.len + length (plain_body (present l.left)) ≡ length (plain_body (present l.fn.values));
  within : l.len < 2 ^ 64;
  fits : AllByRecursion (IsPlain l.kind) (present l.fn.values) ↔ AllByRecursion (IsPlain l.kind) (present l.left);
}

abbrev pub decreases-values : goal.decreases-values
decreases-values l = length l.left
