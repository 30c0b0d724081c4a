-- A seat that is put back, and changes of one seat that are alike.
use Rattle.std.proofs.Common.{◌≡◌, ℕ, zero, suc, ◌-◌, Bool, true, false, List, [], ◌∷◌, Option, Some, None, slice_get, slice_set, ap, refl}
use Rattle.std.specs.Prelude.{◌==◌, if◌then◌else◌}
use Rattle.dk_core.specs.declared.seat.Seat.{Seat}
use Rattle.dk_core.specs.Core.{seat_at}
use Rattle.dk_slow_seats.specs.Seats.{with_seat}

same_set : {T : Type 0} (xs : List T) (n : ℕ) (x : T) → slice_get xs n ≡ Some x → xs ≡ slice_set xs n x
same_set [] n x is = refl
same_set (y ∷ xs) zero x is = cc
same_set (y ∷ xs) (suc n) x is = ap (λ rest. y ∷ rest) (same_set xs n x is)

-- the seat of a number is the one in the place before it
found_there : {T : Type 0} (none : Bool) (found : Option T) (x : T) → (if none then None else found) ≡ Some x
    → found ≡ Some x
found_there true found x is = cc
found_there false found x is = is

pub put_back : (seats : List Seat) (number : ℕ) (seat : Seat) → seat_at seats number ≡ Some seat
    → seats ≡ slice_set seats (number - 1) seat
put_back seats number seat is = same_set seats (number - 1) seat (found_there (number == 0) _ seat is)

-- two changes of a seat are one where they are of the seat that is there
pub seats_alike : (seats : List Seat) (number : ℕ) (change other : Seat → Seat)
    → ((seat : Seat) → seat_at seats number ≡ Some seat → change seat ≡ other seat)
    → with_seat seats number change ≡ with_seat seats number other
seats_alike seats number change other alike = by_found (seat_at seats number) refl
  where
    by_found : (found : Option Seat) → seat_at seats number ≡ found
        → elim found as (λ x. List Seat) [ None ↦ seats | Some seat ↦ slice_set seats (number - 1) (change seat) ]
        ≡ elim found as (λ x. List Seat) [ None ↦ seats | Some seat ↦ slice_set seats (number - 1) (other seat) ]
    by_found None is = refl
    by_found (Some seat) is = ap (slice_set seats (number - 1)) (alike seat is)

pub seats_kept : (seats : List Seat) (number : ℕ) → seats ≡ with_seat seats number (λ seat. seat)
seats_kept seats number = by_found (seat_at seats number) refl
  where
    by_found : (found : Option Seat) → seat_at seats number ≡ found
        → seats ≡ elim found as (λ x. List Seat) [ None ↦ seats | Some seat ↦ slice_set seats (number - 1) seat ]
    by_found None is = refl
    by_found (Some seat) is = put_back seats number seat is
