use Rattle.std.proofs.Common.{arith, ◌+◌, ◌-◌, ap, ◌∙◌}
use Rattle.std.proofs.lemmas.Result.{err_from_is_err_and}
use Rattle.dk_columns.specs.Columns.{Column}
use Rattle.dk_values.specs.declared.value.ColType.TheVariants as types
use Rattle.dk_values.specs.declared.value.Value.TheVariants as values
use Rattle.dk_bytes.proofs.OutcomeLemmas.{fails_then}
use Rattle.dk_seg_text.proofs.ValueLemmas.{one_value, failed_value}
use Rattle.dk_seg_text.proofs.plain.read_texts.Goals as goal

pub texts-preserved : goal.texts-preserved
texts-preserved c =
    record {
      kind = ap (λ (column : Column). column.kind) c.in_ok-push.ensures.ok ∙ c.texts.invariant.kind;
      told = rw c.in_ok-push.ensures.ok
          (one_value types.Text c.texts.cells.values (values.Text c.in_ok-text.text.now) (c.args.count - c.texts.counter) (c.args.count - (c.texts.counter + 1)) _ _ _ (omega (arith, c.texts-test.true)) c.in_ok-text.ensures c.texts.invariant.told);
      within = omega arith;
    }

pub returns-in_err-text-clause-values : goal.returns-in_err-text-clause-values
returns-in_err-text-clause-values c =
    let p = err_from_is_err_and c.from_residual.result c.from_residual.ensures.1 in
    rw (p.1, p.2) (fails_then _ _ _ (failed_value types.Text c.texts.cells.values (c.args.count - c.texts.counter) (c.args.count - (c.texts.counter + 1)) _ _ (omega (arith, c.texts-test.true)) c.texts.invariant.told) c.in_err-text.ensures)
