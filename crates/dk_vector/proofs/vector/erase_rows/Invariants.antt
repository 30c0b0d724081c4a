use Rattle.dk_vector.proofs.EraseLemmas.{ErasedSoFar}
use Rattle.dk_vector.proofs.vector.erase_rows.Given as goal

abbrev pub invariant-rows : goal.invariant-rows
invariant-rows l = ErasedSoFar l.id l.rows l.i l.fn.stamps l.stamps
