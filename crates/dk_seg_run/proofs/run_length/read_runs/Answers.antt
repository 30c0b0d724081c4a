use Rattle.std.proofs.Common.{arith, ◌+◌, ◌-◌, refl}
use Rattle.std.proofs.lemmas.Result.{err_from_is_err_and}
use Rattle.dk_bytes.proofs.OutcomeLemmas.{fails_then}
use Rattle.dk_seg_run.proofs.RunLoopLemmas.{one_run, failed_run}
use Rattle.dk_seg_run.proofs.run_length.read_runs.Goals as goal

pub runs-preserved : goal.runs-preserved
runs-preserved c =
    let read = rw c.as_slice.ensures.value at c.in_ok-run.ensures.reads in
    record {
      told = rw c.in_ok-push.ensures.items
          (one_run c.args.kind c.runs.runs.items c.in_ok-run.run' (c.args.run_count - c.runs.counter) (c.args.run_count - (c.runs.counter + 1)) _ _ _ (omega (arith, c.runs-test.true)) read c.runs.invariant.told);
      count = omega (arith, c.in_ok-push.ensures.len, c.runs.invariant.count);
      behind = λ _. c.in_ok-run.ensures.behind refl;
    }

pub returns-in_err-run-clause-reads : goal.returns-in_err-run-clause-reads
returns-in_err-run-clause-reads c =
    let read = rw c.as_slice.ensures.value at c.in_err-run.ensures.reads in
    let p = err_from_is_err_and c.from_residual.result c.from_residual.ensures.1 in
    rw (p.1, p.2) (fails_then _ _ _ (failed_run c.args.kind c.runs.runs.items (c.args.run_count - c.runs.counter) (c.args.run_count - (c.runs.counter + 1)) _ _ (omega (arith, c.runs-test.true)) c.runs.invariant.told) read)
