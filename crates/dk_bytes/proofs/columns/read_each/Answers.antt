use Rattle.std.proofs.Common.{arith, ◌+◌, ◌-◌}
use Rattle.std.proofs.lemmas.Result.{err_from_is_err_and}
use Rattle.dk_bytes.specs.ColumnFields.{column_at}
use Rattle.dk_bytes.proofs.OutcomeLemmas.{fails_then}
use Rattle.dk_bytes.proofs.SpellLemmas.{list_step, list_fault}
use Rattle.dk_bytes.proofs.columns.read_each.Goals as goal

pub columns-preserved : goal.columns-preserved
columns-preserved c = record {
  told = rw c.in_ok-push.ensures.items
      (list_step column_at c.columns.columns.items c.in_ok-column.column (c.args.count - c.columns.counter)
      (c.args.count - (c.columns.counter + 1)) _ _ _ (omega (arith, c.columns-test.true))
      (rw c.as_slice.ensures.value at c.in_ok-column.ensures) c.columns.invariant.told);
  within = omega arith;
}

pub returns-in_err-column : goal.returns-in_err-column
returns-in_err-column c =
    let p = err_from_is_err_and c.from_residual-in_err-column.result c.from_residual-in_err-column.ensures.1 in
    rw (p.1, p.2) (fails_then _ _ _
    (list_fault column_at c.columns.columns.items (c.args.count - c.columns.counter)
    (c.args.count - (c.columns.counter + 1)) _ _ (omega (arith, c.columns-test.true)) c.columns.invariant.told)
    (rw c.as_slice.ensures.value at c.in_err-column.ensures))
