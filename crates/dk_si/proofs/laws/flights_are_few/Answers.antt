-- The law is a lemma.
use Rattle.dk_si.proofs.ShortSizeLemmas as size
use Rattle.dk_si.proofs.laws.flights_are_few.Goals as goal

pub returns : goal.returns
returns c = size.flights_are_few
