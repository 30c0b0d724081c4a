-- Rows that fit their tables, and nets that fit a database.
use Rattle.std.specs.Prelude.{ℕ, ◌^◌, Bool, true, false, ◌&&◌, ◌==◌, List, [], length, Some}
use Rattle.std.specs.Prelude.{nat_lt, slice_get, ◌≡◌}
use Rattle.std.specs.List.{All, list_all, list_any}
use Rattle.std.specs.Str.{is_utf8}
use lib.Pointwise.{pointwise}
use Rattle.dk_values.specs.declared.column.Column.{Column}
use Rattle.dk_values.specs.declared.value.ColType.{ColType}
use Rattle.dk_values.specs.declared.value.ColType.TheVariants as type
use Rattle.dk_values.specs.declared.value.Value.{Value}
use Rattle.dk_values.specs.declared.value.Value.TheVariants as value
use Rattle.dk_types.specs.declared.net.Commit.{Commit}
use Rattle.dk_types.specs.declared.net.Commit.TheVariants.{Create, Change}
use Rattle.dk_types.specs.declared.net.TableNet.{TableNet}
use Rattle.dk_types.specs.Nets.{IsNet}
use Rattle.dk_si.specs.declared.database.Table.{Table}
use Rattle.dk_si.specs.declared.history.Entry.{Entry}
use Rattle.dk_si.specs.declared.machine.OpenTransaction.{OpenTransaction}
use Rattle.dk_si.specs.Database.{after, present}
use Rattle.dk_si.specs.IsStep.{are_steps}
use Rattle.dk_si.specs.Laws.{state_after}
use Rattle.dk_si.specs.Machine.{first_state}
use Rattle.dk_si.specs.Meaning.{may_create}
use Rattle.dk_si.specs.Nets.{has_id, is_empty, part_has, rises}
use Rattle.dk_si.specs.RowLaws.{has_row}
use Rattle.dk_laws.specs.SessionLaws.{IsOpen}

-- a column of that type may hold the value: NULL, or one of its own kind, a text of at most 65,535
-- bytes of UTF-8
abbrev pub holds_value : ColType → Value → Bool
holds_value type value.Null = true
holds_value type.Bool (value.Bool truth) = true
holds_value type.Int (value.Int n) = true
holds_value type.Big (value.Big n) = true
holds_value type.Text (value.Text bytes) = is_utf8 bytes && nat_lt (length bytes) (2 ^ 16)
holds_value type other = false

-- one fitting value per column
abbrev pub fits_row : List Column → List Value → Bool
fits_row schema row = pointwise (λ column v. holds_value column.kind v) schema row

-- each row that is there fits its table
abbrev pub fits_table : Table → Bool
fits_table table = list_all (fits_row table.schema) (present table.rows)

abbrev pub all_fit : List Table → Bool
all_fit tables = list_all fits_table tables

-- what a net changes in a table fits it: updates and deletes ascend, share no row and are of rows
-- that are there, and updated and new rows fit the table
pub record FitsTable (table : Table) (part : TableNet) : Type 0 where
  pub updates_ascend : rises (λ update. update.0) part.updates ≡ true
  pub deletes_ascend : rises (λ id. id) part.deletes ≡ true
  pub apart : (row : ℕ) → list_any (λ update. update.0 == row) part.updates ≡ true
      → has_id part.deletes row ≡ true → ⊥
  pub there : (row : ℕ) → part_has part row ≡ true → has_row table.rows row ≡ true
  pub updates_fit : list_all (λ update. fits_row table.schema update.1) part.updates ≡ true
  pub rows_fit : list_all (fits_row table.schema) part.rows ≡ true

-- it fits its table in a database
pub record FitsPart (tables : List Table) (part : TableNet) : Type 0 where
  pub table : Table
  pub is : slice_get tables part.table ≡ Some table
  pub fits : FitsTable table part

-- a net fits a database: its tables ascend, and each part changes something and fits its table
pub record FitsNet (tables : List Table) (net : List TableNet) : Type 0 where
  pub is : IsNet net
  pub parts : All (FitsPart tables) net

-- a commit fits the database that it is applied to: a net that changes something, or a table that
-- may be made there
abbrev pub FitsCommit : List Table → Commit → Type 0
FitsCommit tables (Change net) = (is_empty net ≡ false) × FitsNet tables net
FitsCommit tables (Create name schema) = may_create tables name schema ≡ true

-- where the rows of the opened database fit, each row fits its table after each number of commits
abbrev pub RowsFit : Type 0
RowsFit = (opened : List Table) (entries : List Entry) (n : ℕ)
    → all_fit opened ≡ true → are_steps opened [] first_state entries ≡ true
    → all_fit (after opened (state_after opened first_state entries).commits n) ≡ true

-- and each commit fits the database that it is applied to
abbrev pub CommitsFit : Type 0
CommitsFit = (opened : List Table) (entries : List Entry) (n : ℕ) (commit : Commit)
    → all_fit opened ≡ true → are_steps opened [] first_state entries ≡ true
    → slice_get (state_after opened first_state entries).commits n ≡ Some commit
    → FitsCommit (after opened (state_after opened first_state entries).commits n) commit

-- and the net of each open transaction fits the database at its start
abbrev pub NetsFit : Type 0
NetsFit = (opened : List Table) (entries : List Entry) (number : ℕ) (active : OpenTransaction)
    → all_fit opened ≡ true → IsOpen opened entries number active
    → FitsNet (after opened (state_after opened first_state entries).commits active.start)
    active.net
