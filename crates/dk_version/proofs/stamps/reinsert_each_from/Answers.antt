use Rattle.std.proofs.Common.{arith, suc, ◌≡◌, ◌<◌, ◌+◌, ◌-◌, ◌∙◌, ap, length, set, get_or, List}
use Rattle.dk_version.specs.declared.stamps.Stamp.{Stamp}
use Rattle.dk_version.specs.Rows.{reinserted, reinserted_from}
use Rattle.dk_version.proofs.FromLemmas.{from_next, length_from}
use Rattle.dk_version.proofs.stamps.reinsert_each_from.Goals as goal

pub rows-preserved : goal.rows-preserved
rows-preserved c =
    let old = c.args.stamps.now.items in
    let now = c.rows.stamps.items in
    let i = c.len-in-rows.result - 1 - c.rows.k in
    let next = length old - (c.rows.k + 1) in
    let same : length now ≡ length old = ap (λ (l : List Stamp). length l) c.rows.invariant ∙ length_from (length old - c.rows.k) c.args.from c.args.to old in
    let below : c.rows.k < length old = omega (arith, c.rows-test.true, c.saturating_sub-k-end.ensures, c.len.ensures, c.args.stamps.now.ok.0) in
    let here : i ≡ next = omega (arith, c.len-in-rows.ensures, same, c.rows.stamps.ok.0) in
    let before : length old - c.rows.k ≡ suc next = omega (arith, below) in
    let within : next < length old = omega (arith, below) in
    ap (λ (s : Stamp). set now i s) c.reinserted.ensures
    ∙ ap (λ n. set now n (reinserted c.args.from c.args.to c.index.result.now)) here
    ∙ from_next next c.args.from c.args.to old now c.index.result.now within (c.rows.invariant ∙ ap (λ n. reinserted_from n c.args.from c.args.to old) before) (c.index.ensures ∙ ap (λ n. get_or now n c.index.result.now) here)
