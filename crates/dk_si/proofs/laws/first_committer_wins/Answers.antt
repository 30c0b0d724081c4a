-- The law is a lemma.
use Rattle.dk_si.proofs.FirstCommitterLemmas as wins
use Rattle.dk_si.proofs.laws.first_committer_wins.Goals as goal

pub returns : goal.returns
returns c = wins.first_committer_wins
