-- How a statement's changes of the view join those that its transaction made before.
use Rattle.std.specs.List.{list_all, list_any, filter}
use Rattle.std.specs.Prelude.{true, false, ℕ, List, [], ◌∷◌, ◌==◌, nat_lt, if◌then◌else◌, Option, Some, None, Bool, ◌-◌, not, map, ◌++◌, length, slice_get, ◌||◌, ◌&&◌, sum}
use Rattle.dk_values.specs.declared.value.Value.{Value}
use Rattle.dk_types.specs.Nets.{changes}
use Rattle.dk_types.specs.declared.net.TableNet.{TableNet}
use Rattle.dk_si.specs.declared.database.Table.{Table}
use Rattle.dk_si.specs.Database.{present, put_rows, clear_rows}

abbrev pub is_empty : {T : Type 0} → List T → Bool
is_empty [] = true
is_empty (x ∷ xs) = false

-- the keys of these ascend, each once
abbrev pub rises : {T : Type 0} → (T → ℕ) → List T → Bool
rises key [] = true
rises key (x ∷ xs) = list_all (λ y. nat_lt (key x) (key y)) xs && rises key xs

-- an item in an ascending list: it takes the place of one with its key
abbrev pub put_by : {T : Type 0} → (T → ℕ) → T → List T → List T
put_by key item [] = item ∷ []
put_by key item (first ∷ items) =
    if nat_lt (key item) (key first) then item ∷ first ∷ items
    else (if key item == key first then item ∷ items else first ∷ put_by key item items)

-- a list behind an item that may wait for its place in it
abbrev pub with_waiting : {T : Type 0} → (T → ℕ) → Option T → List T → List T
with_waiting key None items = items
with_waiting key (Some item) items = put_by key item items

abbrev pub put_all : {T : Type 0} → (T → ℕ) → List T → List T → List T
put_all key [] items = items
put_all key (item ∷ more) items = put_all key more (put_by key item items)

-- whether an id stands among these
abbrev pub has_id : List ℕ → ℕ → Bool
has_id ids id = list_any (λ other. other == id) ids

-- the ids of committed rows, of which there are so many
abbrev pub committed_ids : ℕ → List ℕ → List ℕ
committed_ids count ids = filter (λ id. nat_lt id count) ids

-- the places among the transaction's own rows, which stand behind the committed ones
abbrev pub own_places : ℕ → List ℕ → List ℕ
own_places count ids = map (λ id. id - count) (filter (λ id. not (nat_lt id count)) ids)

abbrev pub committed_updates : ℕ → List (ℕ × List Value) → List (ℕ × List Value)
committed_updates count updates = filter (λ update. nat_lt update.0 count) updates

abbrev pub own_updates : ℕ → List (ℕ × List Value) → List (ℕ × List Value)
own_updates count updates = map (λ update. (update.0 - count, update.1)) (filter (λ update. not (nat_lt update.0 count)) updates)

-- the transaction's own rows: those that are updated have their new values, those that are deleted close up, and new
-- ones come at the end
abbrev pub merged_rows : ℕ → TableNet → TableNet → List (List Value)
merged_rows count part change =
    present (clear_rows (own_places count change.deletes) (put_rows (own_updates count change.updates) (map Some part.rows))) ++ change.rows

-- the updates of committed rows: the newer values of a row stay, and a row that is deleted has none
abbrev pub merged_updates : ℕ → TableNet → TableNet → List (ℕ × List Value)
merged_updates count part change =
    filter (λ update. not (has_id change.deletes update.0)) (put_all (λ update. update.0) (committed_updates count change.updates) part.updates)

abbrev pub merged_deletes : ℕ → TableNet → TableNet → List ℕ
merged_deletes count part change = put_all (λ id. id) (committed_ids count change.deletes) part.deletes

-- a part with a statement's change, in a table of so many committed rows
abbrev pub merged_part : ℕ → TableNet → TableNet → TableNet
merged_part count part change = record {
  table = change.table;
  updates = merged_updates count part change;
  deletes = merged_deletes count part change;
  rows = merged_rows count part change;
}

-- what a net has of a table
abbrev pub part_of : List TableNet → ℕ → TableNet
part_of [] table = record { table = table; updates = []; deletes = []; rows = [] }
part_of (part ∷ parts) table = if part.table == table then part else part_of parts table

abbrev pub without : List TableNet → ℕ → List TableNet
without net table = filter (λ part. not (part.table == table)) net

-- a net with a part for a table that it has none for; a part that changes nothing is left out
abbrev pub with_part : TableNet → List TableNet → List TableNet
with_part part net = if changes part then put_by (λ part. part.table) part net else net

-- the transaction's changes after a statement that changes the view so
abbrev pub merged_net : ℕ → List TableNet → TableNet → List TableNet
merged_net count net change = with_part (merged_part count (part_of net change.table) change) (without net change.table)

-- how many rows a table has by now
abbrev pub row_count : List Table → ℕ → ℕ
row_count tables place = elim (slice_get tables place) [ None ↦ 0 | Some table ↦ length table.rows ]

-- whether a part changes a committed row
abbrev pub part_has : TableNet → ℕ → Bool
part_has part row = list_any (λ update. update.0 == row) part.updates || has_id part.deletes row

-- whether a net changes a committed row
abbrev pub net_has : List TableNet → ℕ → ℕ → Bool
net_has net table row = list_any (λ part. part.table == table && part_has part row) net

-- the new rows of a net, over all tables
abbrev pub new_rows : List TableNet → ℕ
new_rows net = sum (map (λ part. length part.rows) net)
