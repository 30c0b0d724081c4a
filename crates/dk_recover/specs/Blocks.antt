-- The blocks that the segments of a group stand in: each block has one use.
use Rattle.std.specs.Prelude.{ℕ, List, [], ◌∷◌, ◌++◌, nat_lt, Result, Ok, Err, if◌then◌else◌}
use Rattle.dk_types.specs.declared.damage.Damage.{Damage}
use Rattle.dk_types.specs.declared.damage.Damage.TheVariants.{Outside, Twice}
use Rattle.dk_pages.specs.declared.page.SegmentRef.{SegmentRef}
use Rattle.dk_pages.specs.declared.page.GroupPage.{GroupPage}
use Rattle.dk_block_man.specs.Used.{is_among, with_block}
use Rattle.dk_recover.specs.Readings.{each}

-- the blocks of a group so far, in the order of their first use, and all that are used, these among them
pub record Claimed : Type 0 where
  pub own : List ℕ
  pub used : List ℕ

-- A segment stands in a block. Segments of a group may share one; else it lies in the file, which has so many blocks,
-- and nothing uses it before.
abbrev pub claim : ℕ → Claimed → ℕ → Result Claimed Damage
claim blocks claimed block =
    if is_among claimed.own block then Ok claimed
    else (if nat_lt block blocks
    then (if is_among claimed.used block then Err (Twice block)
    else Ok (record { own = claimed.own ++ block ∷ []; used = with_block block claimed.used }))
    else Err (Outside block blocks))

-- so do the segments of a vector
abbrev pub claim_segment : ℕ → Claimed → SegmentRef → Result Claimed Damage
claim_segment blocks claimed segment = claim blocks claimed segment.block

abbrev pub claim_vector : ℕ → Claimed → List SegmentRef → Result Claimed Damage
claim_vector blocks claimed segments = each (claim_segment blocks) claimed segments

-- and those of a column's vectors
abbrev pub claim_column : ℕ → Claimed → List (List SegmentRef) → Result Claimed Damage
claim_column blocks claimed vectors = each (claim_vector blocks) claimed vectors

-- the blocks of the segments of a page, as its columns name them, where these are used before
abbrev pub claim_page : ℕ → List ℕ → GroupPage → Result Claimed Damage
claim_page blocks used page = each (claim_column blocks) (record { own = []; used = used }) page.columns
