-- The commit that the log records for a net: how long its payload is, the machine's weight of the net says.
use Rattle.std.specs.Prelude.{◌≡◌, ℕ, List, [], ◌∷◌, length}
use Rattle.dk_types.specs.declared.net.TableNet.{TableNet}
use Rattle.dk_si.specs.Weight.{group_count, tail_rows, weight}
use Rattle.dk_pages.specs.declared.log.LogTable.{LogTable}
use Rattle.dk_pages.specs.declared.log.LogCommit.{LogCommit}
use Rattle.dk_pages.specs.declared.log.LogCommit.TheVariants.{Create, Change}
use Rattle.dk_pages.specs.declared.tree.TableEntry.{TableEntry}
use Rattle.dk_wal.specs.Payload.{IsCommit}

-- what a net changes in a table: new rows that fill groups are named by the groups' roots, the others are the tail
pub record Records (part : TableNet) (table : LogTable) : Type 0 where
  pub number : table.table ≡ part.table
  pub updates : table.updates ≡ part.updates
  pub deletes : table.deletes ≡ part.deletes
  pub groups : length table.groups ≡ group_count part
  pub tail : table.tail ≡ tail_rows part

-- in each of its tables
abbrev pub AreRecorded : List TableNet → List LogTable → Type 0
AreRecorded [] [] = Unit {0}
AreRecorded (part ∷ net) (table ∷ tables) = Records part table × AreRecorded net tables
AreRecorded net tables = ⊥

-- the commit of a net
abbrev pub IsCommitOf : List TableNet → LogCommit → Type 0
IsCommitOf net (Create name columns) = ⊥
IsCommitOf net (Change tables) = AreRecorded net tables

-- the bytes of the payload are as many as the machine says that the net weighs
abbrev pub HasWeight : LogCommit → ℕ → Type 0
HasWeight commit len = (tables : List TableEntry) (net : List TableNet) → IsCommit tables commit → IsCommitOf net commit
    → len ≡ weight net
