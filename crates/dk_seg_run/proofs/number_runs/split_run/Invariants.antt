use Rattle.std.proofs.Common.{◌≡◌, ◌+◌, ◌≤◌, ◌<◌, length}
use Rattle.dk_seg_run.specs.NumberRuns.{run_len, behind_run}
use Rattle.dk_seg_run.proofs.number_runs.split_run.Given as goal

abbrev pub invariant-numbers : goal.invariant-numbers
invariant-numbers l = record {
  told : l.count + run_len l.first l.left ≡ run_len l.first l.fn.rest + 1;
  behind : behind_run l.first l.left ≡ behind_run l.first l.fn.rest;
  within : l.count + length l.left ≤ 1 + length l.fn.rest;
  some : 0 < l.count;
}

abbrev pub decreases-numbers : goal.decreases-numbers
decreases-numbers l = length l.left
