-- What is done so far, and what the rest gives.
use Rattle.std.proofs.Common.{◌≡◌, drop, ◌++◌}
use Rattle.dk_si.specs.Database.{present}
use Rattle.dk_plain.proofs.database.present.Given as goal

abbrev pub invariant-loop-place : goal.invariant-loop-place
invariant-loop-place l = l.rows ++ present (drop l.place-index l.places) ≡ present l.places
