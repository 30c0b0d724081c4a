use Rattle.std.proofs.Common.{◌≡◌, ◌+◌, ◌≤◌, length}
use Rattle.dk_seg_run.specs.NumberRuns.{run_count}
use Rattle.dk_seg_run.proofs.number_runs.count_behind.Given as goal

abbrev pub invariant-numbers : goal.invariant-numbers
invariant-numbers l = record {
  told : l.runs + run_count l.last l.left ≡ 1 + run_count l.fn.first l.fn.rest;
  within : l.runs + length l.left ≤ 1 + length l.fn.rest;
}

abbrev pub decreases-numbers : goal.decreases-numbers
decreases-numbers l = length l.left
