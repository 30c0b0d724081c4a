-- The least so far and the least of the other rows lead to the same one.
use Rattle.std.proofs.Common.{◌≡◌, ℕ, drop}
use Rattle.std.specs.Prelude.{Bool}
use Rattle.dk_si.specs.Answer.{least_where}
use Rattle.dk_core.specs.Findings.{is_unseen}
use Rattle.dk_slow_seats.specs.Folds.{lesser}
use Rattle.dk_slow_seats.specs.Seats.{core_of}
use Rattle.dk_slow_seats.proofs.conflicts.Scope.least_unseen.Given as goal

abbrev pub invariant-loop-id : goal.invariant-loop-id
invariant-loop-id l =
    let test : ℕ → Bool =
    is_unseen (core_of l.self.seats.now l.self.commits.now) l.self.number l.start l.table in
    lesser l.least (least_where test (drop l.id-index l.ids)) ≡ least_where test l.ids
