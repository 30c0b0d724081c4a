-- The core behind a Change: where there is no snapshot, where a conflict is found, and where there is none.
use Rattle.std.proofs.Common.{◌≡◌, ℕ, List, ◌∷◌, Option, Some, None, ap, ◌∙◌, sym, refl}
use Rattle.dk_types.specs.declared.net.TableNet.{TableNet}
use Rattle.dk_types.specs.declared.reply.Refusal.{Refusal}
use Rattle.dk_types.specs.declared.vector.VectorId.{VectorId}
use Rattle.dk_core.specs.declared.event.Event.TheVariants as event
use Rattle.dk_core.specs.declared.seat.Seat.{Seat}
use Rattle.dk_core.specs.declared.seat.Snapshot.{Snapshot}
use Rattle.dk_core.specs.Core.{Core, seat_at}
use Rattle.dk_core.specs.Findings.{conflict}
use Rattle.dk_core.specs.Step.{seat_after_change}
use Rattle.dk_slow_seats.specs.Seats.{seats_with, start_at, with_version}
use Rattle.dk_slow_core.specs.Moves.{core_behind}
use Rattle.dk_slow_core.proofs.PlaceLemmas.{seats_alike, seats_kept}

change_is : (core : Core) (number : ℕ) (at : VectorId) (part : TableNet)
    → seats_with core number (seat_after_change core number part) ≡ core_behind core (event.Change number at part)
unfolding core_behind
change_is core number at part = refl

-- the seat that a change leaves, by the start of its snapshot and by what is found
by_finding : TableNet → Seat → Option Refusal → Seat
by_finding part seat found = elim found as (λ x. Seat) [
  | None ↦ with_version part seat
  | Some refusal ↦ record seat { found = Some refusal }
]

by_start : Core → ℕ → TableNet → Seat → Option ℕ → Seat
by_start core number part seat start = elim start as (λ x. Seat) [
  | None ↦ seat
  | Some start ↦ by_finding part seat (conflict core number start part)
]

started : Option Snapshot → Option ℕ
started live = elim live as (λ x. Option ℕ) [ None ↦ None | Some live ↦ Some live.start ]

change_by : (core : Core) (number : ℕ) (part : TableNet) (seat : Seat) (live : Option Snapshot)
    → by_start core number part seat (started live)
    ≡ elim live as (λ x. Seat) [
      | None ↦ seat
      | Some live ↦ elim (conflict core number live.start part) as (λ x. Seat) [
        | None ↦ record seat { made = part ∷ seat.made }
        | Some refusal ↦ record seat { found = Some refusal }
      ]
    ]
unfolding by_start by_finding started
change_by core number part seat None = refl
change_by core number part seat (Some live) = refl

start_is : (seats : List Seat) (number : ℕ) (seat : Seat) → seat_at seats number ≡ Some seat
    → start_at seats number ≡ started seat.live
unfolding started
start_is seats number seat is =
    ap (λ found. elim found as (λ x. Option ℕ) [
      | None ↦ None
      | Some seat ↦ elim seat.live as (λ x. Option ℕ) [ None ↦ None | Some live ↦ Some live.start ]
    ]) is

change_at : (core : Core) (number : ℕ) (at : VectorId) (part : TableNet) (change : Seat → Seat)
    → ((seat : Seat) → seat_at core.seats number ≡ Some seat
    → change seat ≡ by_start core number part seat (start_at core.seats number))
    → seats_with core number change ≡ core_behind core (event.Change number at part)
change_at core number at part change alike =
    ap (λ seats. record core { seats = seats })
    (seats_alike core.seats number change (seat_after_change core number part)
    (λ seat is. alike seat is ∙ (ap (by_start core number part seat) (start_is core.seats number seat is)
    ∙ change_by core number part seat seat.live)))
    ∙ change_is core number at part

pub no_change_behind : (core : Core) (number : ℕ) (at : VectorId) (part : TableNet)
    → start_at core.seats number ≡ None → core ≡ core_behind core (event.Change number at part)
unfolding by_start
no_change_behind core number at part none =
    ap (λ seats. record core { seats = seats }) (seats_kept core.seats number)
    ∙ change_at core number at part (λ seat. seat) (λ seat is. sym (ap (by_start core number part seat) none))

pub conflict_behind : (core : Core) (number start : ℕ) (at : VectorId) (part : TableNet) (refusal : Refusal)
    → start_at core.seats number ≡ Some start → conflict core number start part ≡ Some refusal
    → seats_with core number (λ seat. record seat { found = Some refusal })
    ≡ core_behind core (event.Change number at part)
unfolding by_start by_finding
conflict_behind core number start at part refusal begun found =
    change_at core number at part (λ seat. record seat { found = Some refusal })
    (λ seat is. sym (ap (by_start core number part seat) begun ∙ ap (by_finding part seat) found))

pub change_behind : (core : Core) (number start : ℕ) (at : VectorId) (part : TableNet)
    → start_at core.seats number ≡ Some start → conflict core number start part ≡ None
    → seats_with core number (with_version part) ≡ core_behind core (event.Change number at part)
unfolding by_start by_finding
change_behind core number start at part begun free =
    change_at core number at part (with_version part)
    (λ seat is. sym (ap (by_start core number part seat) begun ∙ ap (by_finding part seat) free))
