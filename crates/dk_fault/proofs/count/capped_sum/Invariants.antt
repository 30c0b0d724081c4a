-- The rest comes to the same sum.
use Rattle.std.proofs.Common.{◌≡◌, ◌+◌, ◌<◌, ◌^◌, map, drop}
use Rattle.std.specs.Prelude.{sum}
use Rattle.std.specs.Fn.{FnReturnsAt}
use Rattle.dk_fault.specs.Counts.{capped}
use Rattle.dk_fault.specs.Sums.{Sizes}
use Rattle.dk_fault.proofs.count.capped_sum.Given as goal

abbrev pub invariant-loop-item : goal.invariant-loop-item
invariant-loop-item g l = record {
  small : l.total < 2 ^ 64;
  same : (f : _) → Sizes (FnReturnsAt g.F.Fn l.size) f → capped (l.total + sum (map f (drop l.item-index l.items))) ≡ capped (sum (map f l.items));
}
