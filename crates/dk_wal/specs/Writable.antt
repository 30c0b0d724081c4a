-- What putting a commit into bytes asks of it: lengths and numbers that fit their fields. Every commit that is in the
-- grammar with some tables has them.
use Rattle.std.specs.Prelude.{ℕ, ◌<◌, ◌^◌, List, length}
use Rattle.std.specs.List.{AllByRecursion}
use Rattle.dk_values.specs.declared.value.Value.{Value}
use Rattle.dk_values.specs.declared.value.Value.TheVariants as values
use Rattle.dk_bytes.specs.ColumnFields.{IsName}
use Rattle.dk_pages.specs.declared.log.LogTable.{LogTable}
use Rattle.dk_pages.specs.declared.log.LogCommit.{LogCommit}
use Rattle.dk_pages.specs.declared.log.LogCommit.TheVariants.{Create, Change}

-- a text's length fits two bytes
abbrev pub IsShort : Value → Type 0
IsShort (values.Text text) = length text < 2 ^ 16
IsShort value = Unit {0}

abbrev pub AreShort : List Value → Type 0
AreShort row = AllByRecursion IsShort row

abbrev pub ShortUpdate : ℕ × List Value → Type 0
ShortUpdate update = AreShort update.1

-- the numbers fit four bytes
pub record ShortTable (table : LogTable) : Type 0 where
  pub few_updates : length table.updates < 2 ^ 32
  pub few_deletes : length table.deletes < 2 ^ 32
  pub few_groups : length table.groups < 2 ^ 32
  pub few_rows : length table.tail < 2 ^ 32
  pub updates : AllByRecursion ShortUpdate table.updates
  pub tail : AllByRecursion AreShort table.tail

pub record ShortTables (tables : List LogTable) : Type 0 where
  pub few : length tables < 2 ^ 16
  pub each : AllByRecursion ShortTable tables

abbrev pub IsWritable : LogCommit → Type 0
IsWritable (Create name columns) = IsName name
IsWritable (Change tables) = ShortTables tables
