-- The rows of a table that a statement updates or deletes.
use Rattle.std.specs.Prelude.{ℕ, ◌+◌, Bool, true, false, List, [], ◌∷◌, slice_get, slice_set, Option, Some, None, option_map, Result, Ok, Err}
use Rattle.dk_values.specs.declared.column.Column.{Column}
use Rattle.dk_values.specs.declared.value.Value.{Value}
use Rattle.dk_types.specs.declared.bound.BoundExpr.{BoundExpr}
use Rattle.dk_types.specs.declared.bound.BoundSet.{BoundSet}
use Rattle.dk_eval.specs.Values.{value_of}
use Rattle.dk_query.specs.Kept.{behind, passes}
use Rattle.dk_si.specs.Stored.{stored}

-- ---- rows by what comes of them

-- what comes of the row of an id, before what comes of the rows behind it: where it has no value, its id; nothing where it
-- is passed over
abbrev pub with_pick : {T : Type 0} → Option (Option T) → ℕ → Result (List T) ℕ → Result (List T) ℕ
with_pick None id others = Err id
with_pick (Some None) id others = others
with_pick (Some (Some x)) id others = behind (x ∷ []) others

-- what comes of the rows that are there, whose ids are counted on from this one, or the first row that has no value
abbrev pub picked : {T : Type 0} → (ℕ → List Value → Option (Option T)) → ℕ → List (Option (List Value)) → Result (List T) ℕ
picked of id [] = Ok []
picked of id (None ∷ rows) = picked of (id + 1) rows
picked of id (Some row ∷ rows) = with_pick (of id row) id (picked of (id + 1) rows)

-- what is made of a row, if the filter keeps it
abbrev pub if_kept : {T : Type 0} → Option Bool → Option T → Option (Option T)
if_kept None made = None
if_kept (Some false) made = Some None
if_kept (Some true) made = option_map Some made

-- ---- updates

-- a value as the column of that place holds it
abbrev pub stored_at : List Column → ℕ → Value → Option Value
stored_at columns place v = elim (slice_get columns place) [ None ↦ None | Some column ↦ stored column.kind v ]

-- what a set puts into its column: the value of its expression on the row as it was
abbrev pub set_value : List Column → List Value → BoundSet → Option Value
set_value columns old set = elim (value_of old set.value) [ None ↦ None | Some v ↦ stored_at columns set.column v ]

-- a row with the values of sets, all taken from the row as it was
abbrev pub with_sets : List Column → List Value → List BoundSet → List Value → Option (List Value)
with_sets columns old [] row = Some row
with_sets columns old (set ∷ sets) row = elim (set_value columns old set) [
  | None ↦ None
  | Some v ↦ with_sets columns old sets (slice_set row set.column v)
]

-- the row of an id with its new values, if the filter keeps it
abbrev pub new_row : List Column → List BoundSet → Option BoundExpr → ℕ → List Value → Option (Option (ℕ × List Value))
new_row columns sets filter id row =
    if_kept (passes filter row) (option_map (λ new. (id, new)) (with_sets columns row sets row))

-- ---- deletes

-- the id of a row, if the filter keeps it
abbrev pub gone_id : Option BoundExpr → ℕ → List Value → Option (Option ℕ)
gone_id filter id row = if_kept (passes filter row) (Some id)
