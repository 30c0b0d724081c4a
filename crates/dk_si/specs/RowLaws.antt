-- Which rows a statement updates and deletes.
use Rattle.std.specs.Prelude.{ℕ, Bool, false, is_some, List, Option, Some, None, slice_get, ◌≡◌, true}
use Rattle.dk_values.specs.declared.value.Value.{Value}
use Rattle.dk_types.specs.declared.net.TableNet.{TableNet}
use Rattle.dk_syntax.specs.declared.statement.Statement.{Statement}
use Rattle.dk_si.specs.declared.database.Table.{Table}
use Rattle.dk_si.specs.declared.meaning.Meaning.TheVariants.{Change}
use Rattle.dk_si.specs.Machine.{changed_ids}
use Rattle.dk_si.specs.Meaning.{meaning}
use Rattle.dk_si.specs.Nets.{has_id}

-- whether a row of that id is there
abbrev pub has_row : List (Option (List Value)) → ℕ → Bool
has_row rows id = elim (slice_get rows id) [ None ↦ false | Some row ↦ is_some row ]

abbrev pub table_has_row : List Table → ℕ → ℕ → Bool
table_has_row tables place id = elim (slice_get tables place) [ None ↦ false | Some table ↦ has_row table.rows id ]

-- a statement updates and deletes rows that are there
abbrev pub ChangedRowsAreThere : Type 0
ChangedRowsAreThere = (tables : List Table) (statement : Statement) (count : ℕ) (part : TableNet)
    → meaning tables statement ≡ Change count part → (id : ℕ) → has_id (changed_ids part) id ≡ true → table_has_row tables part.table id ≡ true
