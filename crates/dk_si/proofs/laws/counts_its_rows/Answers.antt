-- Each form of a change counts its rows.
use Rattle.dk_si.proofs.laws.counts_its_rows.Goals as goal
use Rattle.dk_si.proofs.MeaningLemmas.{counts_its_rows}

pub returns : goal.returns
returns c = counts_its_rows
