use Rattle.std.proofs.Common.{refl, sym, ◌∙◌, arith}
use Rattle.dk_wal.specs.Ascending.{first, itself}
use Rattle.dk_wal.proofs.AscendingLemmas.{rises, none_shared, rises_behind, pass_update, pass_delete}
use Rattle.dk_wal.proofs.shared_ids.shares_id.Goals as goal

pub ids-init : goal.ids-init
ids-init c = record {
  told = refl;
  updates = rises first c.args.updates.now c.requires.updates;
  deletes = rises itself c.args.deletes.now c.requires.deletes;
}

pub returns-in_default-left : goal.returns-in_default-left
returns-in_default-left c =
    sym (none_shared c.ids.left.now c.ids.others.now (omega (arith, c.in_default-left.len_below))) ∙ c.ids.invariant.told

pub ids-preserved-then-update-delete-2 : goal.ids-preserved-then-update-delete-2
ids-preserved-then-update-delete-2 c = record {
  told = pass_update c.ids.left.now c.ids.others.now c.update-item.result
      (omega (arith, c.in-len1-up-left.len_at_least)) (omega (arith, c.in-len1-up.len_at_least)) c.update-item.is
      c.if-update-delete-2.true c.ids.invariant.deletes ∙ c.ids.invariant.told;
  updates = rises_behind first c.ids.left.now (omega (arith, c.in-len1-up-left.len_at_least)) c.ids.invariant.updates;
  deletes = c.ids.invariant.deletes;
}

pub ids-preserved : goal.ids-preserved
ids-preserved c = record {
  told = pass_delete c.ids.left.now c.ids.others.now c.update-item.result
      (omega (arith, c.in-len1-up-left.len_at_least)) (omega (arith, c.in-len1-up.len_at_least)) c.update-item.is
      (omega (arith, c.if-update-delete.false, c.if-update-delete-2.false)) c.ids.invariant.updates
      ∙ c.ids.invariant.told;
  updates = c.ids.invariant.updates;
  deletes = rises_behind itself c.ids.others.now (omega (arith, c.in-len1-up.len_at_least)) c.ids.invariant.deletes;
}
