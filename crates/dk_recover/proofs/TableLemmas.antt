-- A table with the pages of its groups.
use Rattle.std.specs.Prelude.{◌≡◌, ℕ, List, length, Option, IfSome, Result, Ok, Err, refl}
use Rattle.std.proofs.Common.{subst}
use Rattle.dk_types.specs.declared.damage.Damage.{Damage}
use Rattle.dk_values.specs.declared.column.Column.{Column}
use Rattle.dk_block_file.specs.declared.fault.BlockFault.{BlockFault}
use Rattle.dk_pages.specs.declared.page.GroupRef.{GroupRef}
use Rattle.dk_pages.specs.declared.page.Placed.{Placed}
use Rattle.dk_pages.specs.declared.tree.TableEntry.{TableEntry}
use Rattle.dk_strings.specs.Effects.{Tells}
use Rattle.dk_recover.specs.declared.pages.TablePages.{TablePages}
use Rattle.dk_recover.specs.Readings.{Reached}
use Rattle.dk_recover.specs.Tree.{pages_read, table_read}
use Rattle.dk_recover.proofs.TellingLemmas.{fault_if, then_if, if_some}

-- what was read, where these blocks are used
abbrev reached : {A : Type 0} → List ℕ → A → Reached A
reached used it = record { it = it; used = used }

module _ (c : Option (List ℕ)) (entry : TableEntry) (used : List ℕ) (schema : List Column) (groups : List GroupRef)
    (is_schema : schema ≡ entry.schema) (are_groups : groups ≡ entry.groups) where
  abbrev table_at : Reached (List Placed) → Result (Reached TablePages) Damage
  table_at pages = Ok (record {
    it = record { name = entry.name; schema = entry.schema; pages = pages.it };
    used = pages.used;
  })

  -- its pages, as the entry tells
  pages_here : {X : Type 0} (v : X → Reached (List Placed)) (r : Result X BlockFault)
      → IfSome c (λ main. Tells v (pages_read (length schema) groups used main) r)
      → IfSome c (λ main. Tells v (pages_read (length entry.schema) entry.groups used main) r)
  pages_here v r told =
      subst (λ (l : List GroupRef). IfSome c (λ main. Tells v (pages_read (length entry.schema) l used main) r)) are_groups
      (subst (λ (s : List Column). IfSome c (λ main. Tells v (pages_read (length s) groups used main) r)) is_schema told)

  pub table_fault : (used' : List ℕ) (fault : BlockFault)
      → IfSome c (λ main. Tells (λ (pages : List Placed). reached used' pages)
      (pages_read (length schema) groups used main) (Err fault))
      → IfSome c (λ main. Tells (λ (table : TablePages). reached used' table) (table_read entry used main) (Err fault))
  unfolding table_read
  table_fault used' fault told =
      fault_if (λ (pages : List Placed). reached used' pages) (λ (table : TablePages). reached used' table) c
      (λ main. pages_read (length entry.schema) entry.groups used main) (λ main. table_at) fault
      (pages_here (λ (pages : List Placed). reached used' pages) (Err fault) told)

  pub table_found : (used' name : List ℕ) (columns : List Column) (pages : List Placed) → name ≡ entry.name
      → columns ≡ entry.schema
      → IfSome c (λ main. Tells (λ (pages : List Placed). reached used' pages)
      (pages_read (length schema) groups used main) (Ok pages))
      → IfSome c (λ main. Tells (λ (table : TablePages). reached used' table) (table_read entry used main)
      (Ok (record { name = name; schema = columns; pages = pages })))
  unfolding table_read
  table_found used' name columns pages named same told =
      then_if (λ (pages : List Placed). reached used' pages) (λ (table : TablePages). reached used' table) c
      (λ main. pages_read (length entry.schema) entry.groups used main) (λ main. table_at) pages
      (Ok (record { name = name; schema = columns; pages = pages }))
      (pages_here (λ (pages : List Placed). reached used' pages) (Ok pages) told)
      (if_some c _ (λ main. rw (named, same) refl))
