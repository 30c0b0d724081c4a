use Rattle.std.proofs.Common.{drop, arith}
use Rattle.std.proofs.lemmas.List.{length-drop}
use Rattle.dk_rows.specs.Values.{text_count, sum_count}
use Rattle.dk_rows.proofs.ValuesLemmas.{sum_behind, most, text_most, sum_most}
use Rattle.dk_rows.proofs.values.counts_behind.Goals as goal

pub overflow_add-texts : goal.overflow_add-texts
overflow_add-texts c =
    let here = sum_behind text_count c.args.slots.now c.slots.i c.get-slot.result c.get-slot.ensures in
    let all = most text_count text_most (drop c.args.n c.args.slots.now) in
    record { fits = omega (arith, c.slots.invariant.0, c.text_count-texts.ensures, here, all, length-drop c.args.n c.args.slots.now, c.len-i-end.ensures) }

pub overflow_add-sums : goal.overflow_add-sums
overflow_add-sums c =
    let here = sum_behind sum_count c.args.slots.now c.slots.i c.get-slot.result c.get-slot.ensures in
    let all = most sum_count sum_most (drop c.args.n c.args.slots.now) in
    record { fits = omega (arith, c.slots.invariant.1, c.sum_count-sums.ensures, here, all, length-drop c.args.n c.args.slots.now, c.len-i-end.ensures) }

pub slots-preserved : goal.slots-preserved
slots-preserved c =
    let texts = sum_behind text_count c.args.slots.now c.slots.i c.get-slot.result c.get-slot.ensures in
    let sums = sum_behind sum_count c.args.slots.now c.slots.i c.get-slot.result c.get-slot.ensures in
    (omega (arith, c.slots.invariant.0, c.text_count-texts.ensures, texts), omega (arith, c.slots.invariant.1, c.sum_count-sums.ensures, sums))
