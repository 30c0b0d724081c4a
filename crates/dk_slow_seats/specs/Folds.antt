-- What a walk over commits, rows or seats has found so far, and what it finds at its end.
use Rattle.std.specs.Prelude.{ℕ, ◌+◌, Bool, min, List, [], ◌∷◌, Option, Some, None, if◌then◌else◌}
use Rattle.dk_types.specs.declared.net.Commit.{Commit}
use Rattle.dk_si.specs.HeldRows.{commit_has}
use Rattle.dk_core.specs.declared.seat.Seat.{Seat}

-- the number of the last commit that changed the row, where of those before these, so many, it is this one
abbrev pub last_from : ℕ → ℕ → ℕ → ℕ → List Commit → ℕ
last_from table row before last [] = last
last_from table row before last (commit ∷ commits) =
    last_from table row (before + 1) (if commit_has table row commit then before + 1 else last) commits

-- the first of two that is there
abbrev pub first_of : Option ℕ → Option ℕ → Option ℕ
first_of None other = other
first_of (Some number) other = Some number

-- the lesser of two numbers that may be missing
abbrev pub lesser : Option ℕ → Option ℕ → Option ℕ
lesser None other = other
lesser (Some id) None = Some id
lesser (Some id) (Some other) = Some (min id other)

-- the lesser of a bound and the start of a seat's snapshot, if it has one
abbrev pub bound_with : ℕ → Seat → ℕ
bound_with bound seat = elim seat.live [ None ↦ bound | Some live ↦ min bound live.start ]

abbrev pub bound_from : ℕ → List Seat → ℕ
bound_from bound [] = bound
bound_from bound (seat ∷ seats) = bound_from (bound_with bound seat) seats
