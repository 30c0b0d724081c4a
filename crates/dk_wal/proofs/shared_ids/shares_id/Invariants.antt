use Rattle.std.proofs.Common.{◌≡◌, ◌+◌, length}
use Rattle.dk_wal.specs.Ascending.{first, itself}
use Rattle.dk_wal.specs.Payload.{shares_id}
use Rattle.dk_wal.proofs.AscendingLemmas.{Rises}
use Rattle.dk_wal.proofs.shared_ids.shares_id.Given as goal

abbrev pub invariant-ids : goal.invariant-ids
invariant-ids l = record {
  told : shares_id l.left l.others ≡ shares_id l.updates l.deletes;
  updates : Rises first l.left;
  deletes : Rises itself l.others;
}

abbrev pub decreases-ids : goal.decreases-ids
decreases-ids l = length l.left + length l.others
