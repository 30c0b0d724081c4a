-- By the lemma on the snapshot's entries.
use Rattle.dk_manager.proofs.PendingLemmas.{later_is_seen_alike}
use Rattle.dk_manager.proofs.laws.later_is_seen_alike.Goals as goal

pub returns : goal.returns
returns c = later_is_seen_alike
