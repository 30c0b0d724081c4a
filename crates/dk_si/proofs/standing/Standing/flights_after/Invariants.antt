-- What is kept so far, and what is kept of the rest.
use Rattle.std.proofs.Common.{◌≡◌, ◌++◌, drop}
use Rattle.std.specs.Prelude.{not}
use Rattle.std.specs.List.{filter}
use Rattle.dk_si.specs.Standing.{is_of}
use Rattle.dk_si.proofs.standing.Standing.flights_after.Given as goal

abbrev pub invariant-loop-flight : goal.invariant-loop-flight
invariant-loop-flight l = l.flights ++ filter (λ flight. not (is_of l.session flight)) (drop l.flight-index l.flight-items) ≡ filter (λ flight. not (is_of l.session flight)) l.self.flights
