use Rattle.std.proofs.Common.{arith, ◌+◌, ◌-◌}
use Rattle.std.proofs.lemmas.Result.{err_from_is_err_and}
use Rattle.dk_bytes.proofs.OutcomeLemmas.{fails_then}
use Rattle.dk_bytes.proofs.SpellLemmas.{list_step, list_fault}
use Rattle.dk_wal.specs.Payload.{tail_row_at}
use Rattle.dk_wal.proofs.read.read_each_row.Goals as goal

pub rows-preserved : goal.rows-preserved
rows-preserved c = record {
  told = rw c.in_ok-push.ensures.ok
      (list_step (tail_row_at c.args.columns.now) c.rows.rows c.in_ok-row.row (c.args.count - c.rows.counter)
      (c.args.count - (c.rows.counter + 1)) _ _ _ (omega (arith, c.rows-test.true))
      c.in_ok-row.ensures.place c.rows.invariant.told);
  within = omega arith;
}

pub returns-in_err-row : goal.returns-in_err-row
returns-in_err-row c =
    let p = err_from_is_err_and c.from_residual.result c.from_residual.ensures.1 in
    rw (p.1, p.2) (fails_then _ _ _
    (list_fault (tail_row_at c.args.columns.now) c.rows.rows (c.args.count - c.rows.counter)
    (c.args.count - (c.rows.counter + 1)) _ _ (omega (arith, c.rows-test.true)) c.rows.invariant.told)
    c.in_err-row.ensures.place)
