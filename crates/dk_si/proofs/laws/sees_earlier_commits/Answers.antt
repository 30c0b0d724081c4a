-- The law is a lemma.
use Rattle.dk_si.proofs.FirstCommitterLemmas as wins
use Rattle.dk_si.proofs.laws.sees_earlier_commits.Goals as goal

pub returns : goal.returns
returns c = wins.sees_earlier_commits
