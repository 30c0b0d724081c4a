-- What is kept of the updates so far.
use Rattle.std.proofs.Common.{◌≡◌, not}
use Rattle.std.specs.List.{filter}
use Rattle.dk_si.specs.Nets.{has_id}
use Rattle.dk_plain.proofs.nets.unless_deleted.Given as goal

abbrev pub invariant-loop-update : goal.invariant-loop-update
invariant-loop-update l = l.kept ≡ filter (λ update. not (has_id l.deletes update.0)) l.yielded
