-- A page, read from its chain, and its blocks.
use Rattle.std.specs.Prelude.{◌≡◌, ℕ, List, [], ◌++◌, length, Option, Some, None, IfSome, Result, Ok, Err, refl}
use Rattle.std.proofs.Common.{sym, ◌∙◌, ap, subst}
use Rattle.dk_types.specs.declared.damage.Damage.{Damage}
use Rattle.dk_types.specs.declared.damage.Part.TheVariants as part
use Rattle.dk_pages.specs.declared.page.GroupRef.{GroupRef}
use Rattle.dk_pages.specs.declared.page.GroupPage.{GroupPage}
use Rattle.dk_pages.specs.declared.page.SegmentRef.{SegmentRef}
use Rattle.dk_pages.specs.declared.page.Placed.{Placed}
use Rattle.dk_block_file.specs.Blocks.{blocks_in}
use Rattle.dk_block_file.specs.declared.fault.BlockFault.{BlockFault}
use Rattle.dk_strings.specs.Chains.{◌>>=◌, Chain, string_at, with_blocks}
use Rattle.dk_strings.specs.Effects.{Tells, chain_of}
use Rattle.dk_strings.specs.declared.string.Found.{Found}
use Rattle.dk_recover.specs.Readings.{Reached, each}
use Rattle.dk_recover.specs.Blocks.{Claimed, claim_column, claim_page}
use Rattle.dk_recover.specs.Pages.{page_in, page_read}
use Rattle.dk_recover.proofs.TellingLemmas.{fault_if, then_if, fault_of, then_of, if_some}

abbrev as_page : GroupPage → GroupPage
as_page page = page

-- a group in its place, where these blocks are used
abbrev pub with_used : List ℕ → Placed → Reached Placed
with_used used placed = record { it = placed; used = used }

abbrev with_own : List ℕ → List ℕ → Claimed
with_own used own = record { own = own; used = used }

-- ---- after the chain and the bytes

module _ (c : Option (List ℕ)) (columns : ℕ) (group : GroupRef) (used : List ℕ) where
  abbrev chain_read : List ℕ → Result Chain Damage
  chain_read main = string_at (record { root = group.root; part = part.Page }) used main

  abbrev placed_at : Chain → GroupPage → Claimed → Result (Reached Placed) Damage
  placed_at chain page claimed = Ok (record {
    it = record { group = group; page = page; blocks = chain.blocks ++ claimed.own };
    used = claimed.used;
  })

  abbrev behind_page : List ℕ → Chain → GroupPage → Result (Reached Placed) Damage
  behind_page main chain page =
      claim_page (blocks_in (length main)) (with_blocks chain.blocks used) page >>= placed_at chain page

  abbrev behind_chain : List ℕ → Chain → Result (Reached Placed) Damage
  behind_chain main chain = page_in columns group.rows chain.bytes >>= behind_page main chain

  pub chain_fault : (used' : List ℕ) (fault : BlockFault)
      → IfSome c (λ main. Tells chain_of (chain_read main) (Err fault))
      → IfSome c (λ main. Tells (with_used used') (page_read columns group used main) (Err fault))
  unfolding page_read
  chain_fault used' fault h = fault_if chain_of (with_used used') c chain_read behind_chain fault h

  module _ (chain : Found) (bytes : List ℕ) (same : bytes ≡ chain.bytes.items)
      (h : IfSome c (λ main. Tells chain_of (chain_read main) (Ok chain))) where
    pub bytes_fault : (used' : List ℕ) (fault : BlockFault)
        → Tells as_page (page_in columns group.rows bytes) (Err fault)
        → IfSome c (λ main. Tells (with_used used') (page_read columns group used main) (Err fault))
    unfolding page_read
    bytes_fault used' fault told =
        then_if chain_of (with_used used') c chain_read behind_chain chain (Err fault) h
        (if_some c _ (λ main. fault_of as_page (with_used used') (page_in columns group.rows chain.bytes.items)
        (behind_page main (chain_of chain)) fault
        (subst (λ (b : List ℕ). Tells as_page (page_in columns group.rows b) (Err fault)) same told)))

    -- the chain and its bytes are in order, and the claims are left
    on_page : (w : Placed → Reached Placed) (page : GroupPage) (result : Result Placed BlockFault)
        → Tells as_page (page_in columns group.rows bytes) (Ok page)
        → IfSome c (λ main. Tells w (behind_page main (chain_of chain) page) result)
        → IfSome c (λ main. Tells w (page_read columns group used main) result)
    unfolding page_read
    on_page w page result told left =
        then_if chain_of w c chain_read behind_chain chain result h
        (at c left)
      where
        at : (d : Option (List ℕ)) → IfSome d (λ main. Tells w (behind_page main (chain_of chain) page) result)
            → IfSome d (λ main. Tells w (behind_chain main (chain_of chain)) result)
        at None left = tt
        at (Some main) left = then_of as_page w (page_in columns group.rows chain.bytes.items)
            (behind_page main (chain_of chain)) page result
            (subst (λ (b : List ℕ). Tells as_page (page_in columns group.rows b) (Ok page)) same told) left

    module _ (page : GroupPage) (page_told : Tells as_page (page_in columns group.rows bytes) (Ok page))
        (count extent : ℕ) (counted : count ≡ blocks_in extent) (long : IfSome c (λ main. length main ≡ extent))
        (marked : List ℕ) (is_marked : marked ≡ with_blocks chain.blocks used)
        (refs : List (List (List SegmentRef))) (are_refs : refs ≡ page.columns) where
      -- the claims in this file
      claims_here : {X : Type 0} (v : X → Claimed) (r : Result X BlockFault)
          → Tells v (each (claim_column count) (record { own = []; used = marked }) refs) r
          → IfSome c (λ main. Tells v
          (claim_page (blocks_in (length main)) (with_blocks chain.blocks used) page) r)
      claims_here v r told = at c long
        where
          at : (d : Option (List ℕ)) → IfSome d (λ main. length main ≡ extent)
              → IfSome d (λ main. Tells v (claim_page (blocks_in (length main)) (with_blocks chain.blocks used) page) r)
          at None long = tt
          at (Some main) long =
              let blocks : count ≡ blocks_in (length main) = counted ∙ ap (λ (n : ℕ). blocks_in n) (sym long) in
              let one = subst (λ (n : ℕ). Tells v (each (claim_column n) (record { own = []; used = marked }) refs) r)
              blocks told in
              let two = subst (λ (u : List ℕ). Tells v
              (each (claim_column (blocks_in (length main))) (record { own = []; used = u }) refs) r) is_marked one in
              subst (λ (l : List (List (List SegmentRef))). Tells v (each (claim_column (blocks_in (length main)))
              (record { own = []; used = with_blocks chain.blocks used }) l) r) are_refs two

      pub claim_fault : (used' : List ℕ) (fault : BlockFault)
          → Tells (with_own used') (each (claim_column count) (record { own = []; used = marked }) refs) (Err fault)
          → IfSome c (λ main. Tells (with_used used') (page_read columns group used main) (Err fault))
      claim_fault used' fault told =
          on_page (with_used used') page (Err fault) page_told
          (fault_if (with_own used') (with_used used') c (λ main. claim_page (blocks_in (length main)) (with_blocks chain.blocks used) page)
          (λ main. placed_at (chain_of chain) page) fault (claims_here (with_own used') (Err fault) told))

      pub page_found : (own blocks used' : List ℕ) → blocks ≡ chain.blocks ++ own
          → Tells (with_own used')
          (each (claim_column count) (record { own = []; used = marked }) refs) (Ok own)
          → IfSome c (λ main. Tells (with_used used')
          (page_read columns group used main) (Ok (record { group = group; page = page; blocks = blocks })))
      page_found own blocks used' joined told =
          on_page (with_used used') page
          (Ok (record { group = group; page = page; blocks = blocks })) page_told
          (then_if (with_own used')
          (with_used used') c
          (λ main. claim_page (blocks_in (length main)) (with_blocks chain.blocks used) page)
          (λ main. placed_at (chain_of chain) page) own
          (Ok (record { group = group; page = page; blocks = blocks }))
          (claims_here (with_own used') (Ok own) told)
          (if_some c _ (λ main. rw joined refl)))
