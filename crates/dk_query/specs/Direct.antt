-- The rows of a query that stand in the order of their ids: the values of each kept row go straight behind the others.
use Rattle.std.specs.Prelude.{◌≡◌, ℕ, ◌-◌, Bool, true, false, not, List, [], ◌∷◌, ◌++◌, length, map, nat_lt, Option, Some, None, Result, Ok, Err, if◌then◌else◌}
use Rattle.dk_values.specs.declared.value.Value.{Value}
use Rattle.dk_types.specs.declared.bound.BoundKey.{BoundKey}
use Rattle.dk_types.specs.declared.bound.BoundQuery.{BoundQuery}
use Rattle.dk_eval.specs.declared.fault.EvalError.{EvalError}
use Rattle.dk_eval.specs.declared.fault.EvalError.TheVariants as eval_error
use Rattle.dk_query.specs.declared.lines.Line.{Line}
use Rattle.dk_query.specs.Selected.{limited}

-- whether a limit lets a row through behind so many
abbrev pub has_room : Option ℕ → ℕ → Bool
has_room None count = true
has_room (Some most) count = nat_lt count most

-- a row's values behind those of others, if it is kept and has room
abbrev pub with_values : Option ℕ → List (List Value) → Option Line → List (List Value)
with_values limit front None = front
with_values limit front (Some line) = if has_room limit (length front) then front ++ line.values ∷ [] else front

-- how many more rows a limit lets through
abbrev pub room_behind : Option ℕ → ℕ → Option ℕ
room_behind None count = None
room_behind (Some most) count = Some (most - count)

-- rows before those of the lines that are left
abbrev pub rows_behind : Option ℕ → List (List Value) → Result (List Line) ℕ → Result (List (List Value)) ℕ
rows_behind limit front (Ok lines) = Ok (front ++ limited (room_behind limit (length front)) (map (λ line. line.values) lines))
rows_behind limit front (Err row) = Err row

-- what was made where there is something to make, and OutOfRange exactly where there is nothing; memory may run out at
-- any time
abbrev pub Makes : {S T : Type 0} → Result S EvalError → T → Option T → Type 0
Makes (Ok done) made found = found ≡ Some made
Makes (Err eval_error.OutOfRange) made found = found ≡ None
Makes (Err eval_error.OutOfMemory) made found = Unit {0}

-- whether the rows stand in the order of their ids, one for each line
abbrev pub is_placed : Bool → List BoundKey → Bool
is_placed grouped [] = not grouped
is_placed grouped (key ∷ keys) = false

abbrev pub is_direct : BoundQuery → Bool
is_direct query = is_placed query.grouped query.keys
