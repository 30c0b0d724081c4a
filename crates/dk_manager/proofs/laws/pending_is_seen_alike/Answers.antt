-- By the lemma on the snapshot's entries.
use Rattle.dk_manager.proofs.PendingLemmas.{pending_is_seen_alike}
use Rattle.dk_manager.proofs.laws.pending_is_seen_alike.Goals as goal

pub returns : goal.returns
returns c = pending_is_seen_alike
