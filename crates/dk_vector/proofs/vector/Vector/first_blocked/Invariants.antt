use Rattle.std.proofs.Common.{◌≡◌, drop}
use Rattle.dk_stamp.specs.Sees.{sees}
use Rattle.dk_vector.specs.Vectors.{first_blocked, against_in}
use Rattle.dk_vector.proofs.vector.Vector.first_blocked.Given as goal

abbrev pub invariant-rows : goal.invariant-rows
invariant-rows l = first_blocked (against_in (sees l.snapshot) l.self) (drop l.i l.rows) ≡ first_blocked (against_in (sees l.snapshot) l.self) l.rows
