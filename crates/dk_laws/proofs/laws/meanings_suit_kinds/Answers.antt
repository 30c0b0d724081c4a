-- By the forms that a meaning has.
use Rattle.dk_laws.proofs.laws.meanings_suit_kinds.Goals as goal
use Rattle.dk_laws.proofs.KindLemmas.{meanings_suit_kinds}

pub returns : goal.returns
returns c = meanings_suit_kinds
