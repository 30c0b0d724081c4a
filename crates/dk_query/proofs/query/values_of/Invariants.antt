-- The values of the lines so far.
use Rattle.std.proofs.Common.{◌≡◌, map, take}
use Rattle.dk_query.proofs.query.values_of.Given as goal

abbrev pub invariant-lines : goal.invariant-lines
invariant-lines l = l.rows ≡ map (λ line. line.values) (take l.line-index l.line-items)
