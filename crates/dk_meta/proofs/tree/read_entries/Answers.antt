use Rattle.std.proofs.Common.{arith}
use Rattle.std.proofs.lemmas.Result.{err_from_is_err_and}
use Rattle.dk_meta.specs.Tree.{entry_at}
use Rattle.dk_meta.proofs.ListLemmas.{list_on, list_ends}
use Rattle.dk_meta.proofs.tree.read_entries.Goals as goal

pub entries-preserved : goal.entries-preserved
entries-preserved c = record {
  told = list_on entry_at c.args.count c.entries.counter c.entries.entries.items _ _ c.in_ok-entry.entry _ _ c.entries-test.true c.entries.invariant.told (rw c.as_slice.ensures.value at c.in_ok-entry.ensures) c.in_ok-push.ensures.items;
  within = omega arith;
}

pub returns-in_err-entry : goal.returns-in_err-entry
returns-in_err-entry c =
    let p = err_from_is_err_and c.from_residual-in_err-entry.result c.from_residual-in_err-entry.ensures.1 in
    rw (p.1, p.2) (list_ends entry_at c.args.count c.entries.counter c.entries.entries.items _ _ _ c.entries-test.true c.entries.invariant.told (rw c.as_slice.ensures.value at c.in_err-entry.ensures))
