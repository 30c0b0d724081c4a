use Rattle.std.proofs.Common.{◌↔◌, length}
use Rattle.std.specs.List.{AllByRecursion}
use Rattle.dk_bytes.specs.PlainValue.{IsPlain, present}
use Rattle.dk_bytes.proofs.plain_value.are_plain.Given as goal

abbrev pub invariant-values : goal.invariant-values
invariant-values l = AllByRecursion (IsPlain l.kind) (present l.fn.values) ↔ AllByRecursion (IsPlain l.kind) (present l.left)

abbrev pub decreases-values : goal.decreases-values
decreases-values l = length l.left
