-- The law is a lemma.
use Rattle.dk_core.proofs.VersionLemmas.{versions_over_every_list}
use Rattle.dk_core.proofs.laws.versions_over_every_list.Goals as goal

pub returns : goal.returns
returns c = versions_over_every_list
