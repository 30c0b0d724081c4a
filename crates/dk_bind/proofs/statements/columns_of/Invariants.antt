-- The columns so far are those of the spots so far.
use Rattle.std.proofs.Common.{◌≡◌, take}
use Rattle.dk_bind.specs.Statements.{columns_of}
use Rattle.dk_bind.proofs.statements.columns_of.Given as goal

abbrev pub invariant-spots : goal.invariant-spots
invariant-spots l = l.columns.items ≡ columns_of (take l.spot-index l.spots)
