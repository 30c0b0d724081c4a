use Rattle.std.proofs.Common.{ap}
use Rattle.dk_columns.specs.Columns.{Column}
use Rattle.dk_seg_pack.proofs.AboveLemmas.{refused, all_numbers, answered}
use Rattle.dk_seg_pack.proofs.packed.read_differences.Goals as goal

pub returns-then-not-may_stand-clause-values : goal.returns-then-not-may_stand-clause-values
returns-then-not-may_stand-clause-values c =
    rw c.at-at.ensures (refused c.args.cells.now.kind _ _ c.args.count c.args.frame.base c.args.frame.width _ _ _ c.in_ok-above.above _ c.requires.numeric
    (ap (λ (column : Column). column.kind) c.take_numbers.ensures.cells) c.kind.ensures c.in_ok-bytes.ensures c.in_ok-above.ensures.0 c.in_ok-above.ensures.1 c.may_stand.ensures c.if-not-may_stand.true)

pub put_numbers-requires-clause-numbers : goal.put_numbers-requires-clause-numbers
put_numbers-requires-clause-numbers c =
    all_numbers c.args.cells.now.kind _ _ c.args.count c.args.frame.base c.args.frame.width _ _ _ c.in_ok-above.above _ c.requires.numeric
    (ap (λ (column : Column). column.kind) c.take_numbers.ensures.cells) c.kind.ensures c.in_ok-bytes.ensures c.in_ok-above.ensures.0 c.in_ok-above.ensures.1 c.may_stand.ensures c.if-not-may_stand.false

pub returns-clause-values : goal.returns-clause-values
returns-clause-values c =
    rw c.put_numbers.ensures (answered c.args.cells.now.kind _ _ c.args.count c.args.frame.base c.args.frame.width _ _ _ c.in_ok-above.above _ c.requires.numeric
    (ap (λ (column : Column). column.kind) c.take_numbers.ensures.cells) c.kind.ensures c.in_ok-bytes.ensures c.in_ok-above.ensures.0 c.in_ok-above.ensures.1 c.may_stand.ensures c.if-not-may_stand.false)
