-- A table as binding sees it.
use Rattle.std.specs.Prelude.{[]}
use Rattle.dk_pages.specs.declared.tree.TableEntry.{TableEntry}
use Rattle.dk_si.specs.declared.database.Table.{Table}

-- its name and its columns, and no groups
abbrev pub entry_of : Table → TableEntry
entry_of table = record { name = table.name; schema = table.schema; groups = [] }
