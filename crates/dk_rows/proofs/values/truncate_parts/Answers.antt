use Rattle.std.proofs.Common.{◌≡◌, length, arith}
use Rattle.std.proofs.lemmas.List.Sums.{sum_by-take-drop}
use Rattle.dk_rows.specs.Values.{text_count, sum_count}
use Rattle.dk_rows.proofs.ValuesLemmas.{counts, truncated_named, truncated_values}
use Rattle.dk_rows.proofs.values.truncate_parts.Goals as goal

pub overflow_sub-len : goal.overflow_sub-len
overflow_sub-len c =
    let all = counts _ _ 0 0 _ c.requires in
    omega (arith, all.0, sum_by-take-drop text_count c.args.slots.now c.args.n, c.counts_behind-counts.ensures.texts, c.len.ensures)

pub overflow_sub-len-2 : goal.overflow_sub-len-2
overflow_sub-len-2 c =
    let all = counts _ _ 0 0 _ c.requires in
    omega (arith, all.1, sum_by-take-drop sum_count c.args.slots.now c.args.n, c.counts_behind-counts.ensures.sums, c.len-2.ensures, c.args.sums.now.ok.0)

pub returns-clause-named : goal.returns-clause-named
returns-clause-named c =
    let sums : c.len-2.result ≡ length c.args.sums.now.items = omega (arith, c.len-2.ensures, c.args.sums.now.ok.0) in
    rw (c.truncate-2.ensures, c.truncate-3.ensures.items, c.truncate.ensures, c.len.ensures, sums, c.counts_behind-counts.ensures.texts, c.counts_behind-counts.ensures.sums)
    (truncated_named c.args.texts.now c.args.sums.now.items c.args.slots.now c.args.n c.requires)

pub returns-clause-values : goal.returns-clause-values
returns-clause-values c =
    let sums : c.len-2.result ≡ length c.args.sums.now.items = omega (arith, c.len-2.ensures, c.args.sums.now.ok.0) in
    rw (c.truncate-2.ensures, c.truncate-3.ensures.items, c.truncate.ensures, c.len.ensures, sums, c.counts_behind-counts.ensures.texts, c.counts_behind-counts.ensures.sums)
    (truncated_values c.args.texts.now c.args.sums.now.items c.args.slots.now c.args.n c.requires)
