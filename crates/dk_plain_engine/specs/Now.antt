-- The tables behind what an entry commits.
use Rattle.std.specs.Prelude.{ℕ, List, Option, Some, None}
use Rattle.dk_types.specs.declared.net.Commit.{Commit}
use Rattle.dk_si.specs.declared.database.Table.{Table}
use Rattle.dk_si.specs.Database.{apply}
use Rattle.dk_si.specs.Spent.{new_rows_of}

abbrev pub entered : Option Commit → List Table → List Table
entered None tables = tables
entered (Some commit) tables = apply commit tables

-- the rows that an entry adds
abbrev pub rows_entered : Option Commit → ℕ
rows_entered None = 0
rows_entered (Some commit) = new_rows_of commit
