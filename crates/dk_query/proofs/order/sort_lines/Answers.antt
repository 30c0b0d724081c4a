use Rattle.std.proofs.Common.{rules}
use Rattle.std.proofs.lemmas.Result.{on_ok_weaker}
use Rattle.std.proofs.lemmas.List.Sorted.{ranks_by}
use Rattle.std.proofs.lemmas.Fn.{always_returns_same}
use Rattle.dk_query.specs.declared.lines.Line.{Line}
use Rattle.dk_query.specs.Order.{goes_before}
use Rattle.dk_query.proofs.OrderLemmas.{keys_cmp_total}
use Rattle.dk_query.proofs.SortLemmas.{is_sorted}
use Rattle.dk_query.proofs.order.sort_lines.Goals as goal

pub returns-clause-ok : goal.returns-clause-ok
returns-clause-ok c =
    let keys = c.args.keys.now in
    let below = goes_before keys in
    let ranks = ranks_by (keys_cmp_total keys) (λ (line : Line). line.row) in
    on_ok_weaker c.sort_by.result
    (λ up. is_sorted below ranks c.args.lines.now.items c.sort_by.new.self.items
    (up below ranks (always_returns_same _ _ _ (λ a r f k. search rules)))
    (c.sort_by.ensures.stable below ranks (always_returns_same _ _ _ (λ a r f k. search rules))))
    c.sort_by.ensures.sorted
