use Rattle.std.proofs.Common.{arith}
use Rattle.std.proofs.lemmas.Result.{err_from_is_err_and}
use Rattle.dk_meta.specs.Strings.{always}
use Rattle.dk_meta.specs.Tree.{group_at}
use Rattle.dk_meta.proofs.ListLemmas.{list_on, list_ends}
use Rattle.dk_meta.proofs.tree.read_each_group.Goals as goal

pub groups-preserved : goal.groups-preserved
groups-preserved c = record {
  told = list_on (always group_at) c.args.count c.groups.counter c.groups.groups.items _ _ c.in_ok-group.group _ _ c.groups-test.true c.groups.invariant.told c.in_ok-group.ensures c.in_ok-push.ensures.items;
  within = omega arith;
}

pub returns-in_err-group : goal.returns-in_err-group
returns-in_err-group c =
    let p = err_from_is_err_and c.from_residual-in_err-group.result c.from_residual-in_err-group.ensures.1 in
    rw (p.1, p.2) (list_ends (always group_at) c.args.count c.groups.counter c.groups.groups.items _ _ _ c.groups-test.true c.groups.invariant.told c.in_err-group.ensures)
