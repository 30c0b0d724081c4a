-- The database, and what commits do to it.
use Rattle.std.specs.Prelude.{ℕ, List, Option, position, bytes_eq, filter_map, [], ◌∷◌, Some, slice_set, None, ◌++◌, map, slice_get, take}
use Rattle.dk_values.specs.declared.value.Value.{Value}
use Rattle.dk_types.specs.declared.net.Commit.{Commit}
use Rattle.dk_types.specs.declared.net.Commit.TheVariants.{Create, Change}
use Rattle.dk_types.specs.declared.net.TableNet.{TableNet}
use Rattle.dk_si.specs.declared.database.Table.{Table}

-- the place of that name among items that have names
abbrev pub place_of : {T : Type 0} → (T → List ℕ) → List ℕ → List T → Option ℕ
place_of name_of name items = position (λ item. bytes_eq (name_of item) name) items

-- the rows that are there, in the order of their ids
abbrev pub present : List (Option (List Value)) → List (List Value)
present rows = filter_map (λ row. row) rows

-- rows with new values in their places
abbrev pub put_rows : List (ℕ × List Value) → List (Option (List Value)) → List (Option (List Value))
put_rows [] rows = rows
put_rows (update ∷ updates) rows = put_rows updates (slice_set rows update.0 (Some update.1))

-- rows without those of these ids, whose places stay
abbrev pub clear_rows : List ℕ → List (Option (List Value)) → List (Option (List Value))
clear_rows [] rows = rows
clear_rows (id ∷ ids) rows = clear_rows ids (slice_set rows id None)

-- the rows of a table after a net's part of it: updated, deleted, and the new ones at the end
abbrev pub rows_after : TableNet → List (Option (List Value)) → List (Option (List Value))
rows_after part rows = clear_rows part.deletes (put_rows part.updates rows) ++ map Some part.rows

-- a part changes its table, if there is one
abbrev pub apply_part : TableNet → List Table → List Table
apply_part part tables = elim (slice_get tables part.table) [
  | None ↦ tables
  | Some table ↦ slice_set tables part.table (record table { rows = rows_after part table.rows })
]

abbrev pub apply_net : List TableNet → List Table → List Table
apply_net [] tables = tables
apply_net (part ∷ parts) tables = apply_net parts (apply_part part tables)

-- the database after a commit
abbrev pub apply : Commit → List Table → List Table
apply (Create name schema) tables = tables ++ record { name = name; schema = schema; rows = [] } ∷ []
apply (Change net) tables = apply_net net tables

-- the database after all of these commits
abbrev pub after_all : List Commit → List Table → List Table
after_all [] tables = tables
after_all (commit ∷ commits) tables = after_all commits (apply commit tables)

-- the database after the first n commits: what a transaction with the start n sees of others
abbrev pub after : List Table → List Commit → ℕ → List Table
after opened commits n = after_all (take n commits) opened

-- what a transaction sees: the state at its start, with its own changes
abbrev pub view : List Table → List Commit → ℕ → List TableNet → List Table
view opened commits start net = apply_net net (after opened commits start)
