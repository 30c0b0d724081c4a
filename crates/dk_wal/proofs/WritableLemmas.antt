-- Every commit that is in the grammar with some tables has lengths and numbers that fit their fields.
use Rattle.std.proofs.Common.{List, [], ◌∷◌, ◌++◌}
use Rattle.std.specs.List.{AllByRecursion}
use Rattle.dk_values.specs.declared.column.Column.{Column}
use Rattle.dk_values.specs.declared.value.ColType.{ColType}
use Rattle.dk_values.specs.declared.value.ColType.TheVariants as types
use Rattle.dk_values.specs.declared.value.Value.{Value}
use Rattle.dk_values.specs.declared.value.Value.TheVariants as values
use Rattle.dk_bytes.specs.Reading.{AllFollow}
use Rattle.dk_bytes.specs.RowFields.{IsCell, IsRow}
use Rattle.dk_pages.specs.declared.log.LogTable.{LogTable}
use Rattle.dk_pages.specs.declared.log.LogCommit.{LogCommit}
use Rattle.dk_pages.specs.declared.log.LogCommit.TheVariants.{Create, Change}
use Rattle.dk_pages.specs.declared.tree.TableEntry.{TableEntry}
use Rattle.dk_wal.specs.Payload.{IsUpdate, IsTailRow, IsTable, IsCommit}
use Rattle.dk_wal.specs.Writable.{IsShort, AreShort, ShortUpdate, ShortTable, IsWritable}

short_cell : (kind : ColType) (value : Value) → IsCell kind value → IsShort value
short_cell kind values.Null h = tt
short_cell kind (values.Bool truth) h = tt
short_cell kind (values.Int number) h = tt
short_cell kind (values.Big number) h = tt
short_cell types.Text (values.Text text) h = h.0
short_cell types.Bool (values.Text text) h = absurd h
short_cell types.Int (values.Text text) h = absurd h
short_cell types.Big (values.Text text) h = absurd h
short_cell kind (values.Huge number) h = tt

short_row : (columns : List Column) (row : List Value) → IsRow columns row → AreShort row
short_row [] [] h = tt
short_row [] (value ∷ row) h = absurd h
short_row (column ∷ columns) [] h = absurd h
short_row (column ∷ columns) (value ∷ row) h = (short_cell column.kind value h.0, short_row columns row h.1)

-- what fits behind those before it has what follows from fitting
pub all_of : {A : Type 0} (Fits : List A → A → Type 0) (P : A → Type 0)
    → ((earlier : List A) (x : A) → Fits earlier x → P x) → (earlier xs : List A) → AllFollow Fits earlier xs
    → AllByRecursion P xs
all_of Fits P k earlier [] h = tt
all_of Fits P k earlier (x ∷ xs) h = (k earlier x h.0, all_of Fits P k (earlier ++ x ∷ []) xs h.1)

short_table : (tables : List TableEntry) (earlier : List LogTable) (table : LogTable) → IsTable tables earlier table
    → ShortTable table
short_table tables earlier table h = record {
  few_updates = h.updates.fits;
  few_deletes = h.deletes.ids.fits;
  few_groups = h.groups.fits;
  few_rows = h.tail.fits;
  updates = all_of (IsUpdate h.columns) ShortUpdate (λ e u k. short_row h.columns u.1 k.row) [] table.updates
      h.updates.follow;
  tail = all_of (IsTailRow h.columns) AreShort (λ e row k. short_row h.columns row k) [] table.tail h.tail.follow;
}

pub writable : (tables : List TableEntry) (commit : LogCommit) → IsCommit tables commit → IsWritable commit
writable tables (Create name columns) h = h.named
writable tables (Change changed) h = record {
  few = h.fits;
  each = all_of (IsTable tables) ShortTable (short_table tables) [] changed h.follow;
}
