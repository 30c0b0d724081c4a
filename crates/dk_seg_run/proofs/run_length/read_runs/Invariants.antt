use Rattle.std.proofs.Common.{◌≡◌, ◌-◌, ◌<◌, ◌≤◌, vec_len}
use Rattle.dk_seg_run.specs.RunLength.{runs_at, last_of}
use Rattle.std.specs.Prelude.{None}
use Rattle.dk_seg_run.proofs.run_length.read_runs.Given as goal
use Rattle.dk_bytes.proofs.FrontLemmas.{with_front}

abbrev pub invariant-runs : goal.invariant-runs
invariant-runs l = record {
  told : with_front l.runs.items (runs_at l.kind (last_of l.runs.items) (l.run_count - l.counter) l.cursor) ≡ runs_at l.kind None l.run_count l.fn.cursor;
  count : vec_len l.runs ≡ l.counter;
  behind : 0 < l.counter → 2 ≤ l.cursor.at;
}
