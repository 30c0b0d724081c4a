-- The entries of the first tables are those that binding sees.
use Rattle.std.proofs.Common.{◌≡◌, ℕ, ◌≤◌, List, length, map, min, take, ap, ◌∙◌, sym, arith}
use Rattle.std.proofs.lemmas.List.{length-map, length-take, take_min}
use Rattle.dk_bind.specs.declared.statements.TheConstants.{MAX_TABLES}
use Rattle.dk_pages.specs.declared.tree.TableEntry.{TableEntry}
use Rattle.dk_si.specs.declared.database.Table.{Table}
use Rattle.dk_si.specs.Meaning.{entries_of}
use Rattle.dk_states.specs.Entries.{entry_of}

pub first_entries : (tables : List Table) (count : ℕ) (entries : List TableEntry) → count ≡ min (length tables) MAX_TABLES
    → entries ≡ map entry_of (take count tables) → entries ≡ entries_of tables
first_entries tables count entries is made =
    made ∙ ap (λ first. map entry_of first) (ap (λ n. take n tables) (is ∙ swapped) ∙ take_min MAX_TABLES tables)
  where
    swapped : min (length tables) MAX_TABLES ≡ min MAX_TABLES (length tables)
    swapped = omega arith

pub few_entries : (tables : List Table) (count : ℕ) (entries : List TableEntry) → count ≡ min (length tables) MAX_TABLES
    → entries ≡ map entry_of (take count tables) → length entries ≤ MAX_TABLES
few_entries tables count entries is made =
    let long : length entries ≡ min count (length tables) =
    ap length made ∙ (length-map (take count tables) entry_of ∙ length-take count tables) in
    omega (arith, long, is)
