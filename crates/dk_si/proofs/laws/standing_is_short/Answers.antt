-- The law is a lemma.
use Rattle.dk_si.proofs.ShortSizeLemmas as size
use Rattle.dk_si.proofs.laws.standing_is_short.Goals as goal

pub returns : goal.returns
returns c = size.standing_is_short
