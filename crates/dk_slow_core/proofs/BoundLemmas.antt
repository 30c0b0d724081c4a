-- The bound of all snapshots is one, and the greatest.
use Rattle.std.proofs.Common.{◌≡◌, ℕ, ◌≤◌, Bool, true, false, List, [], ◌∷◌, Option, Some, None, length, ap, ◌∙◌, sym, refl, arith}
use Rattle.std.specs.Prelude.{◌&&◌, min, nat_le}
use Rattle.std.specs.List.{list_all}
use Rattle.std.proofs.Math.Bool.{and_assoc}
use Rattle.std.proofs.lemmas.Bool.{leb-true, le-leb}
use Rattle.std.proofs.lemmas.Bool.Decides.{leb_tells}
use Rattle.dk_core.specs.declared.seat.Seat.{Seat}
use Rattle.dk_core.specs.declared.seat.Snapshot.{Snapshot}
use Rattle.dk_core.specs.Allows.{is_bound}
use Rattle.dk_core.specs.Core.{Core}
use Rattle.dk_slow_seats.specs.Folds.{bound_from, bound_with}

and_true : (b : Bool) → b ≡ (b && true)
and_true true = refl
and_true false = refl

le_min : (a b c : ℕ) → nat_le a (min b c) ≡ (nat_le a b && nat_le a c)
le_min a b c = grind (arith, leb_tells)

abbrev is_before : ℕ → Option Snapshot → Bool
is_before bound live = elim live [ None ↦ true | Some live ↦ nat_le bound live.start ]

abbrev lesser_start : ℕ → Option Snapshot → ℕ
lesser_start bound live = elim live [ None ↦ bound | Some live ↦ min bound live.start ]

le_start : (a bound : ℕ) (live : Option Snapshot)
    → nat_le a (lesser_start bound live) ≡ (nat_le a bound && is_before a live)
le_start a bound None = and_true (nat_le a bound)
le_start a bound (Some live) = le_min a bound live.start

le_bound : (a bound : ℕ) (seats : List Seat)
    → nat_le a (bound_from bound seats) ≡ (nat_le a bound && list_all (λ seat. is_before a seat.live) seats)
le_bound a bound [] = and_true (nat_le a bound)
le_bound a bound (seat ∷ seats) =
    le_bound a (bound_with bound seat) seats
    ∙ (ap (λ b. b && list_all (λ seat. is_before a seat.live) seats) (le_start a bound seat.live)
    ∙ and_assoc (nat_le a bound) (is_before a seat.live) (list_all (λ seat. is_before a seat.live) seats))

bound_is : (core : Core) (a : ℕ)
    → nat_le a (bound_from (length core.now.commits) core.seats) ≡ is_bound core a
bound_is core a = le_bound a (length core.now.commits) core.seats

pub bound_holds : (core : Core) (bound : ℕ) → bound ≡ bound_from (length core.now.commits) core.seats
    → is_bound core bound ≡ true
bound_holds core bound is =
    sym (bound_is core bound) ∙ le-leb bound (bound_from (length core.now.commits) core.seats) (grind (arith, is))

pub bound_greatest : (core : Core) (bound other : ℕ) → bound ≡ bound_from (length core.now.commits) core.seats
    → is_bound core other ≡ true → other ≤ bound
bound_greatest core bound other is holds =
    let below : other ≤ bound_from (length core.now.commits) core.seats =
    leb-true other (bound_from (length core.now.commits) core.seats) (bound_is core other ∙ holds)
    in grind (arith, is, below)
