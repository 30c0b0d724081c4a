use Rattle.std.proofs.Common.{◌≡◌, ◌↔◌, length}
use Rattle.std.specs.List.{AllByRecursion}
use Rattle.dk_bytes.specs.PlainValue.{present}
use Rattle.dk_seg_run.proofs.constant.are_all.Given as goal

abbrev pub invariant-values : goal.invariant-values
invariant-values l = AllByRecursion (λ other. other ≡ l.first) (present l.fn.values) ↔ AllByRecursion (λ other. other ≡ l.first) (present l.left)

abbrev pub decreases-values : goal.decreases-values
decreases-values l = length l.left
