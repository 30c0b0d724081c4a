use Rattle.std.proofs.Common.{List, Result, ℕ, ap, sym, ◌∙◌, arith, rules, subst}
use Rattle.dk_values.specs.declared.value.Value.{Value}
use Rattle.dk_bytes.specs.Reading.{FailsAt}
use Rattle.dk_columns.specs.Columns.{Column}
use Rattle.dk_segment.specs.Segment.{segment_at}
use Rattle.dk_segment.proofs.SegmentLemmas.{segment_found, segment_again}
use Rattle.dk_segment.proofs.reading.decode_cells.Goals as goal

pub returns-in-Ok-clause-found : goal.returns-in-Ok-clause-found
returns-in-Ok-clause-found c =
    let h = c.in-Ok.ensures.values in
    segment_found c.args.cells.now.kind c.args.bytes.now _ (λ i. omega (arith, c.type_inv.bytes i)) (search rules) (search rules)

pub returns-in-Ok-clause-only : goal.returns-in-Ok-clause-only
returns-in-Ok-clause-only c = λ encoding values s.
    sym (segment_again c.args.cells.now.kind encoding values c.args.bytes.now s)
    ∙ ap (λ (column : Column). segment_at column.kind c.args.bytes.now) (sym c.clear.ensures) ∙ c.in-Ok.ensures.values

pub returns-in-Err-clause-only : goal.returns-in-Err-clause-only
returns-in-Err-clause-only c = λ encoding values s.
    subst (λ (reading : Result (List Value) ℕ). FailsAt c.in-Err.fault reading)
    (ap (λ (column : Column). segment_at column.kind c.args.bytes.now) c.clear.ensures ∙ segment_again c.args.cells.now.kind encoding values c.args.bytes.now s)
    c.in-Err.ensures.values
