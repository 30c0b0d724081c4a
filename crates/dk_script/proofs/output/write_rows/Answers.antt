-- The row that was written is the first of those that were left.
use Rattle.std.proofs.Common.{arith, rules}
use Rattle.dk_script.proofs.PageLemmas.{leaves_more, front_more}
use Rattle.dk_script.proofs.RowLemmas.{next_row, on_err_from}
use Rattle.dk_script.proofs.output.write_rows.Goals as goal

pub rows-preserved : goal.rows-preserved
rows-preserved g c = record {
  paged = leaves_more _ _ _ _ _ _ _ _ _ (next_row c.args.rows.now c.rows.i _ c.get.ensures) c.rows.invariant.paged
      c.in_ok-write_row.ensures.ok;
  later = omega (arith, c.in_ok-write_row.ensures.stops.later, c.rows.invariant.later);
}

pub returns-in_err-write_row : goal.returns-in_err-write_row
returns-in_err-write_row g c = record {
  ok = search rules;
  err =
      on_err_from c.from_residual.result
      (front_more _ _ _ _ _ _ _ _ (next_row c.args.rows.now c.rows.i _ c.get.ensures) c.rows.invariant.paged
      c.in_err-write_row.ensures.err);
  stops = search rules;
}
