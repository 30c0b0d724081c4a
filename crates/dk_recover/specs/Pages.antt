-- The page of a row group, read from its chain.
use Rattle.std.specs.Prelude.{ℕ, Bool, false, List, ◌++◌, length, ◌==◌, Result, Ok, Err, if◌then◌else◌}
use Rattle.std.specs.Int.{w32}
use Rattle.dk_types.specs.declared.damage.Damage.{Damage}
use Rattle.dk_types.specs.declared.damage.Damage.TheVariants.{Malformed}
use Rattle.dk_types.specs.declared.damage.Part.TheVariants as part
use Rattle.dk_pages.specs.declared.page.GroupRef.{GroupRef}
use Rattle.dk_pages.specs.declared.page.GroupPage.{GroupPage}
use Rattle.dk_pages.specs.declared.page.Placed.{Placed}
use Rattle.dk_bytes.specs.Fields.{number_at}
use Rattle.dk_bytes.specs.Reading.{start, whole}
use Rattle.dk_meta.specs.Page.{page_at}
use Rattle.dk_block_file.specs.Blocks.{blocks_in}
use Rattle.dk_strings.specs.Chains.{◌>>=◌, string_at, with_blocks}
use Rattle.dk_recover.specs.Readings.{Reached, meaning}
use Rattle.dk_recover.specs.Blocks.{claim_page}

-- whether bytes begin with this number, in four of them
abbrev pub begins_with : ℕ → List ℕ → Bool
begins_with rows bytes = elim (number_at w32 (start bytes)) [ Ok n ↦ n.0 == rows | Err at ↦ false ]

-- a page of a table with so many columns
abbrev pub page_of : ℕ → List ℕ → Result GroupPage ℕ
page_of columns bytes = whole (page_at columns (start bytes))

-- The page in the chain at a group's root, by this reading of its bytes, with the blocks of the chain and then those of
-- the segments, where these are used before.
abbrev pub page_by : (List ℕ → Result GroupPage Damage) → GroupRef → List ℕ → List ℕ → Result (Reached Placed) Damage
page_by reading group used main = do
  chain ← string_at (record { root = group.root; part = part.Page }) used main
  page ← reading chain.bytes
  claimed ← claim_page (blocks_in (length main)) (with_blocks chain.blocks used) page
  Ok (record {
    it = record { group = group; page = page; blocks = chain.blocks ++ claimed.own };
    used = claimed.used;
  })

-- what the bytes of a group's page stand for: they begin with the number of rows that the tree tells
abbrev pub page_in : ℕ → ℕ → List ℕ → Result GroupPage Damage
page_in columns rows bytes =
    if begins_with rows bytes then meaning part.Page (page_of columns bytes) else Err (Malformed part.Page 0)

-- the page of a group of a table with so many columns
unfoldable pub page_read : ℕ → GroupRef → List ℕ → List ℕ → Result (Reached Placed) Damage
page_read columns group used main = page_by (page_in columns group.rows) group used main
