-- What a walk over groups or parts has found so far: a row's place behind groups, and rows that stand in groups already.
use Rattle.std.specs.Prelude.{ℕ, ◌+◌, ◌-◌, Bool, false, List, [], ◌∷◌, ◌++◌, length, Option, Some, None, ◌==◌, nat_lt, if◌then◌else◌}
use Rattle.dk_values.specs.declared.value.Value.{Value}
use Rattle.dk_types.specs.declared.net.TableNet.{TableNet}
use Rattle.dk_si.specs.declared.limits.TheConstants.{GROUP_ROWS}

-- a row's place behind these groups, where it is not in one of them
abbrev pub place_behind : List ℕ → ℕ → Option ℕ
place_behind [] row = Some row
place_behind (rows ∷ groups) row = if nat_lt row rows then None else place_behind groups (row - rows)

abbrev pub is_zero : Option ℕ → Bool
is_zero None = false
is_zero (Some n) = n == 0

-- rows of a table behind those of it that parts have, the newest of which stands first
abbrev pub with_placed : ℕ → List TableNet → List (List Value) → List (List Value)
with_placed table [] rows = rows
with_placed table (part ∷ parts) rows = with_placed table parts (if part.table == table then part.rows ++ rows else rows)

-- how many rows are left of so many when those of a table that parts have are taken away
abbrev pub left_of : ℕ → List TableNet → ℕ → ℕ
left_of table [] count = count
left_of table (part ∷ parts) count = left_of table parts (if part.table == table then count - length part.rows else count)

-- the group that the next rows go into behind so many and these, where behind those it is this one
abbrev pub next_from : ℕ → ℕ → List ℕ → ℕ
next_from before next [] = next
next_from before next (rows ∷ groups) =
    next_from (before + 1) (if nat_lt rows GROUP_ROWS then before else before + 1) groups
