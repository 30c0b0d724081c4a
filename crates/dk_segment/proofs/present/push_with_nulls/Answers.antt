use Rattle.std.proofs.Common.{ℕ, ◌+◌, ◌++◌, List, drop, ap, sym, ◌∙◌, arith}
use Rattle.std.proofs.lemmas.List.{drop_more}
use Rattle.dk_columns.specs.Columns.{Column}
use Rattle.dk_segment.specs.Segment.{with_nulls}
use Rattle.dk_segment.proofs.NullLemmas.{put_one}
use Rattle.dk_segment.proofs.present.push_with_nulls.Goals as goal

pub flags-preserved : goal.flags-preserved
flags-preserved c = record {
  kind = ap (λ (column : Column). column.kind) c.in_ok-push.ensures.ok ∙ c.flags.invariant.kind;
  told = put_one _ c.flags.at _ (drop (c.flags.flag-index + 1) c.args.flags.now) c.args.present.now.values c.flags.cells.values _ _ _
      (ap (λ (l : List ℕ). c.flags.cells.values ++ with_nulls l (drop c.flags.at c.args.present.now.values)) (sym (drop_more c.args.flags.now c.flags.flag-index _ (omega (arith, c.flags-test.true)))) ∙ c.flags.invariant.told)
      c.cell_if.ensures.value (ap (λ (column : Column). column.values) c.in_ok-push.ensures.ok) (ap (λ (n : ℕ). c.flags.at + n) c.step_of-at.ensures.value);
  few = omega (arith, c.flags.invariant.few, c.step_of-at.ensures.most);
}
