-- The tree of tables that a checkpoint left in the main file, with the pages of all groups.
use Rattle.std.specs.Prelude.{◌≡◌, ◌≢◌, ℕ, List, [], length, ◌==◌, Result, Ok, if◌then◌else◌}
use Rattle.dk_types.specs.declared.damage.Damage.{Damage}
use Rattle.dk_types.specs.declared.damage.Part.TheVariants as part
use Rattle.dk_pages.specs.declared.page.GroupRef.{GroupRef}
use Rattle.dk_pages.specs.declared.page.Placed.{Placed}
use Rattle.dk_pages.specs.declared.tree.TableEntry.{TableEntry}
use Rattle.dk_header.specs.declared.header.TheConstants.{NO_ROOT}
use Rattle.dk_bytes.specs.Reading.{start, whole}
use Rattle.dk_meta.specs.Strings.{IsString}
use Rattle.dk_meta.specs.Tree.{IsTree, tree_bytes, tree_at}
use Rattle.dk_strings.specs.Chains.{◌>>=◌, Chain, IsChain, string_at}
use Rattle.dk_recover.specs.declared.tree.FoundTree.{FoundTree}
use Rattle.dk_recover.specs.declared.pages.TablePages.{TablePages}
use Rattle.dk_recover.specs.Readings.{Reached, meaning, all_read}
use Rattle.dk_recover.specs.Pages.{page_read}

-- ---- the tree

-- the tables that bytes spell
abbrev pub tables_in : List ℕ → Result (List TableEntry) Damage
tables_in bytes = meaning part.Tree (whole (tree_at (start bytes)))

-- the tree in the chain at a root, with the blocks of the chain, where these are used before
unfoldable pub stored_tree : ℕ → List ℕ → List ℕ → Result FoundTree Damage
stored_tree root used main = do
  chain ← string_at (record { root = root; part = part.Tree }) used main
  tables ← tables_in chain.bytes
  Ok (record { tables = tables; blocks = chain.blocks })

-- no tables and no blocks
abbrev pub no_tree : FoundTree
no_tree = record { tables = []; blocks = [] }

-- no root is the tree of no tables
abbrev pub tree_read : ℕ → List ℕ → List ℕ → Result FoundTree Damage
tree_read root used main =
    if root == NO_ROOT then Ok no_tree else stored_tree root used main

-- ---- the grammar of the tree

-- the tree whose bytes stand in the chain at a root: its blocks lie in the file, and nothing uses one of them before
pub record IsStoredTree (main used : List ℕ) (root : ℕ) (tree : FoundTree) : Type 0 where
  pub chain : Chain
  pub stands : IsChain main used root chain
  pub spelled : IsString IsTree tree_bytes tree.tables chain.bytes
  pub blocks : tree.blocks ≡ chain.blocks

-- the tree of a root: none has no tables
pub record IsTreeAt (main used : List ℕ) (root : ℕ) (tree : FoundTree) : Type 0 where
  pub none : root ≡ NO_ROOT → tree ≡ no_tree
  pub some : root ≢ NO_ROOT → IsStoredTree main used root tree

-- ---- the pages of its groups

-- the pages of these groups of a table with so many columns
abbrev pub pages_read : ℕ → List GroupRef → List ℕ → List ℕ → Result (Reached (List Placed)) Damage
pages_read columns groups used main = all_read (page_read columns) groups used main

-- a table with the pages of its groups
unfoldable pub table_read : TableEntry → List ℕ → List ℕ → Result (Reached TablePages) Damage
table_read entry used main = do
  pages ← pages_read (length entry.schema) entry.groups used main
  Ok (record {
    it = record { name = entry.name; schema = entry.schema; pages = pages.it };
    used = pages.used;
  })

-- the tables of a tree with the pages of all groups
abbrev pub tables_read : List TableEntry → List ℕ → List ℕ → Result (Reached (List TablePages)) Damage
tables_read entries used main = all_read table_read entries used main
