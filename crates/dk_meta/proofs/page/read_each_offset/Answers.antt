use Rattle.std.proofs.Common.{arith}
use Rattle.std.proofs.lemmas.Result.{err_from_is_err_and}
use Rattle.dk_meta.specs.Page.{offset_at}
use Rattle.dk_meta.proofs.ListLemmas.{list_on, list_ends}
use Rattle.dk_meta.proofs.PageLemmas.{least_behind}
use Rattle.dk_meta.proofs.page.read_each_offset.Goals as goal

pub offsets-preserved : goal.offsets-preserved
offsets-preserved c = record {
  told = list_on (offset_at c.args.rows) c.args.count c.offsets.counter c.offsets.offsets.items _ _ c.in_ok-offset.offset _ _ c.offsets-test.true c.offsets.invariant.told (rw c.offsets.invariant.least at c.in_ok-offset.ensures.reads) c.in_ok-push.ensures.items;
  within = omega arith;
  least = rw c.in_ok-push.ensures.items (least_behind c.offsets.offsets.items c.in_ok-offset.offset);
}

pub returns-in_err-offset : goal.returns-in_err-offset
returns-in_err-offset c =
    let p = err_from_is_err_and c.from_residual-in_err-offset.result c.from_residual-in_err-offset.ensures.1 in
    rw (p.1, p.2) (list_ends (offset_at c.args.rows) c.args.count c.offsets.counter c.offsets.offsets.items _ _ _ c.offsets-test.true c.offsets.invariant.told (rw c.offsets.invariant.least at c.in_err-offset.ensures.reads))
