-- The entries so far, with those of the tables that are left, are those of all.
use Rattle.std.proofs.Common.{◌≡◌, ◌++◌, map, drop}
use Rattle.dk_states.specs.Entries.{entry_of}
use Rattle.dk_states.proofs.meaning.entries.Given as goal

abbrev pub invariant-tables : goal.invariant-tables
invariant-tables l = l.entries ++ map entry_of (drop l.table-index l.tables) ≡ map entry_of l.tables
