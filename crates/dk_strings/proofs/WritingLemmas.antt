-- A string is written, part by part.
use Rattle.std.specs.Prelude.{◌≡◌, ◌≢◌, ℕ, ◌+◌, ◌<◌, ◌≤◌, max, Bool, true, false, List, [], ◌∷◌, ◌++◌, length, take, drop, Option, Some, None, IfSome, Ok, refl, ◌||◌, ◌==◌}
use Rattle.std.proofs.Common.{sym, ◌∙◌, ap, subst, arith, append_assoc, length-append}
use Rattle.std.proofs.lemmas.Bool.{eq-eqb}
use Rattle.std.proofs.lemmas.List.{take-append-drop}
use Rattle.dk_device.specs.declared.device.Disk.{Ghosts}
use Rattle.dk_device.specs.declared.device.FileId.TheVariants.{Main}
use Rattle.dk_block_man.specs.Used.{is_among, AreBelow, IsLeastUnused, Gains}
use Rattle.dk_block_file.specs.Blocks.{blocks_in, place_of}
use Rattle.dk_block_file.specs.declared.layout.TheConstants.{HEADERS_BYTES, BLOCK_BYTES}
use Rattle.dk_strings.specs.declared.string.StringRef.{StringRef}
use Rattle.dk_strings.specs.Chains.{first_or, HoldsTo, string_at}
use Rattle.dk_strings.proofs.ChainLemmas.{chain_again}
use Rattle.dk_strings.specs.Effects.{Takes, SameContent, KeepsBlocks, IsOther, IsOneOf, WritesBlockAlone, HasPart, WritesInto, HasBytes}
use Rattle.dk_strings.proofs.TakingLemmas.{takes_more, takes_last, takes_all, takes_other, takes_unused, other_less, least_within, gains_within, below_more}
use Rattle.dk_strings.proofs.HoldingLemmas.{holds_known, more_known, content_same, content_then}
use Rattle.dk_strings.proofs.KeepingLemmas.{keeps_none, keeps_then, keeps_less, headers_none, headers_then}

last_among : (blocks : List ℕ) (block : ℕ) → IsOneOf (blocks ++ block ∷ []) block
last_among [] block = rw (eq-eqb block block refl) refl
last_among (x ∷ blocks) block = by _ _ (last_among blocks block)
  where
    by : (t u : Bool) → u ≡ true → (t || u) ≡ true
    by true u e = refl
    by false u e = e

front_among : (blocks : List ℕ) (block k : ℕ) → IsOneOf blocks k → IsOneOf (blocks ++ block ∷ []) k
front_among [] block k on = absurd cc
front_among (x ∷ blocks) block k on = by (x == k) (is_among blocks k) (is_among (blocks ++ block ∷ []) k)
    (front_among blocks block k) on
  where
    by : (t u v : Bool) → (u ≡ true → v ≡ true) → (t || u) ≡ true → (t || v) ≡ true
    by true u v f e = refl
    by false u v f e = f e

apart : (blocks : List ℕ) (block k : ℕ) → IsOneOf blocks block → IsOther blocks k → k ≢ block
apart blocks block k on off same =
    let both : is_among blocks block ≡ false = subst (λ (j : ℕ). IsOther blocks j) same off in absurd cc

module _ {D : Type 0} (g : Ghosts D) where
  pub writes_none : (used : List ℕ) (a : D) → WritesInto g [] used used a a
  writes_none used a =
      record { takes = refl; keeps = keeps_none g (IsOther []) a; headers = λ there. headers_none g a there }

  -- a block more is taken
  pub writes_more : (blocks : List ℕ) (block : ℕ) (used used' used'' : List ℕ) (a b : D)
      → WritesInto g blocks used used' a b → is_among used' block ≡ false → Gains block used' used''
      → WritesInto g (blocks ++ block ∷ []) used used'' a b
  writes_more blocks block used used' used'' a b writes unused gains = record {
    takes = takes_more blocks block used used' used'' writes.takes unused gains;
    keeps = keeps_less g (IsOther blocks) (IsOther (blocks ++ block ∷ [])) a b (λ k off. (other_less blocks block k off).0)
        writes.keeps;
    headers = writes.headers;
  }

  -- one of them is written
  pub writes_then : (blocks : List ℕ) (block : ℕ) (used used' : List ℕ) (a b c : D) → WritesInto g blocks used used' a b
      → IsOneOf blocks block → WritesBlockAlone g block b c → WritesInto g blocks used used' a c
  writes_then blocks block used used' a b c writes one alone = record {
    takes = writes.takes;
    keeps = keeps_then g (IsOther blocks) (λ k. k ≢ block) (IsOther blocks) a b c
        (λ k off. (off, apart blocks block k one off)) writes.keeps alone.keeps;
    headers = λ there. let first = writes.headers there in headers_then g a b c first (alone.headers first.there);
  }

  -- The blocks that were taken hold the front of a string up to the last one, which is to hold the next part.
  pub record Pending (blocks used used' : List ℕ) (block : ℕ) (rest bytes : List ℕ) (old now : D) : Type 0 where
    pub done : List ℕ
    pub front : List ℕ
    pub are : blocks ≡ done ++ block ∷ []
    pub joined : bytes ≡ front ++ rest
    pub holds : IfSome (g.content now Main) (λ main. HoldsTo main (Some block) done front)
    pub writes : WritesInto g blocks used used' old now
    pub same : SameContent (IsOther blocks) (g.content old Main) (g.content now Main)
    pub headers : HEADERS_BYTES ≤ g.extent now Main
    pub place : place_of block ≤ g.extent now Main
    pub within : AreBelow (max (blocks_in (g.extent now Main)) (block + 1)) used'

  none_hold : (c : Option (List ℕ)) (block : ℕ) → IfSome c (λ main. HoldsTo main (Some block) [] [])
  none_hold None block = tt
  none_hold (Some main) block = refl

  first_place : (block extent : ℕ) → HEADERS_BYTES ≤ extent → block ≤ blocks_in extent → place_of block ≤ extent
  first_place block extent long le = omega (arith, long, le)

  next_place : (block next extent extent' : ℕ) → HEADERS_BYTES ≤ extent
      → next ≤ max (blocks_in extent) (block + 1) → extent' ≡ max extent (place_of block + BLOCK_BYTES)
      → place_of next ≤ extent'
  next_place block next extent extent' long le grown = omega (arith, long, le, grown)

  more_blocks : (block extent extent' : ℕ) → extent' ≡ max extent (place_of block + BLOCK_BYTES)
      → max (blocks_in extent) (block + 1) ≤ blocks_in extent'
  more_blocks block extent extent' grown = omega (arith, grown)

  pub pending_first : (block : ℕ) (used used' bytes : List ℕ) (a : D) → HEADERS_BYTES ≤ g.extent a Main
      → AreBelow (blocks_in (g.extent a Main)) used → IsLeastUnused block used → Gains block used used'
      → Pending (block ∷ []) used used' block bytes bytes a a
  pending_first block used used' bytes a long below least gains = record {
    done = [];
    front = [];
    are = refl;
    joined = refl;
    holds = none_hold (g.content a Main) block;
    writes = writes_more [] block used used used' a a (writes_none used a) least.unused gains;
    same = content_same (IsOther (block ∷ [])) (g.content a Main);
    headers = long;
    place = first_place block (g.extent a Main) long (least_within (blocks_in (g.extent a Main)) block used below least);
    within = gains_within (blocks_in (g.extent a Main)) block used used' below gains;
  }

  -- the same, where the blocks are a list that was empty
  pub pending_start : (block : ℕ) (blocks none used used' bytes : List ℕ) (a : D) → none ≡ []
      → blocks ≡ none ++ block ∷ [] → HEADERS_BYTES ≤ g.extent a Main
      → AreBelow (blocks_in (g.extent a Main)) used → IsLeastUnused block used → Gains block used used'
      → Pending blocks used used' block bytes bytes a a
  pending_start block blocks none used used' bytes a is noted long below least gains =
      subst (λ (l : List ℕ). Pending l used used' block bytes bytes a a)
      (sym (noted ∙ ap (λ (l : List ℕ). l ++ block ∷ []) is))
      (pending_first block used used' bytes a long below least gains)

  -- no block was taken
  pub writes_nothing : (blocks none used used' : List ℕ) (a : D) → none ≡ [] → blocks ≡ none → used' ≡ used
      → WritesInto g blocks used used' a a
  writes_nothing blocks none used used' a is same stays =
      subst (λ (l : List ℕ). WritesInto g l used used' a a) (sym (same ∙ is))
      (subst (λ (u : List ℕ). WritesInto g [] used u a a) (sym stays) (writes_none used a))

  -- what was used before stays
  pub used_stays : (blocks used used' : List ℕ) (a b : D) → WritesInto g blocks used used' a b
      → KeepsBlocks g (IsOneOf used) a b
  used_stays blocks used used' a b writes = keeps_less g (IsOther blocks) (IsOneOf used) a b
      (λ k on. takes_other blocks k used used' writes.takes on) writes.keeps

  module _ (blocks used used' : List ℕ) (block : ℕ) (rest bytes : List ℕ) (a b : D)
      (pending : Pending blocks used used' block rest bytes a b) where
    pub is_pending : IsOneOf blocks block
    is_pending = subst (λ (l : List ℕ). IsOneOf l block) (sym pending.are) (last_among pending.done block)

    -- a block that was written earlier isn't the one that is to be written
    earlier : (k : ℕ) → IsOneOf pending.done k → k ≢ block
    earlier k on same =
        let last = takes_last pending.done block used used'
        (subst (λ (l : List ℕ). Takes l used used') pending.are pending.writes.takes) in
        let one : is_among last.between block ≡ true = subst (λ (j : ℕ). is_among last.between j ≡ true) same
        (takes_all pending.done k used last.between last.takes on) in
        let none : is_among last.between block ≡ false = last.unused in
        absurd cc

    module _ (next : Option ℕ) (part : List ℕ) (c : D)
        (has : HasPart g block (record { next = next; bytes = part }) b c) where
      part_holds : IfSome (g.content c Main) (λ main. HoldsTo main next blocks (pending.front ++ part))
      part_holds = subst (λ (l : List ℕ). IfSome (g.content c Main) (λ main. HoldsTo main next l (pending.front ++ part)))
          (sym pending.are)
          (more_known (g.content c Main) pending.done block next pending.front part
          (holds_known (g.content b Main) (g.content c Main) (λ k. k ≢ block) pending.done (Some block) pending.front
          earlier has.same pending.holds) has.holds)

      part_same : SameContent (IsOther blocks) (g.content a Main) (g.content c Main)
      part_same = content_then (IsOther blocks) (λ k. k ≢ block) (IsOther blocks) (g.content a Main) (g.content b Main)
          (g.content c Main) (λ k off. (off, apart blocks block k is_pending off)) pending.same has.same

    -- the next block is taken, and the part written or not
    pub next_writes : (next : ℕ) (blocks' used'' : List ℕ) (c : D) → IsLeastUnused next used'
        → Gains next used' used'' → blocks' ≡ blocks ++ next ∷ [] → WritesBlockAlone g block b c
        → WritesInto g blocks' used used'' a c
    next_writes next blocks' used'' c least gains more alone =
        subst (λ (l : List ℕ). WritesInto g l used used'' a c) (sym more)
        (writes_more blocks next used used' used'' a c
        (writes_then blocks block used used' a b c pending.writes is_pending alone) least.unused gains)

    -- the last part is written or not
    pub last_writes : (c : D) → WritesBlockAlone g block b c → WritesInto g blocks used used' a c
    last_writes c alone = writes_then blocks block used used' a b c pending.writes is_pending alone

    -- the part is written, and the next block is the one that is to be written
    pub pending_next : (next : ℕ) (part rest' blocks' used'' : List ℕ) (c : D) → rest ≡ part ++ rest'
        → IsLeastUnused next used' → Gains next used' used'' → blocks' ≡ blocks ++ next ∷ []
        → HasPart g block (record { next = Some next; bytes = part }) b c → WritesBlockAlone g block b c
        → Pending blocks' used used'' next rest' bytes a c
    pending_next next part rest' blocks' used'' c cut least gains more has alone = record {
      done = blocks;
      front = pending.front ++ part;
      are = more;
      joined = pending.joined ∙ ap (λ (l : List ℕ). pending.front ++ l) cut ∙ sym (append_assoc pending.front part rest');
      holds = part_holds (Some next) part c has;
      writes = next_writes next blocks' used'' c least gains more alone;
      same = subst (λ (l : List ℕ). SameContent (IsOther l) (g.content a Main) (g.content c Main)) (sym more)
          (content_less blocks next (part_same (Some next) part c has));
      headers = omega (arith, pending.headers, alone.keeps.no_shorter);
      place = next_place block next (g.extent b Main) (g.extent c Main) pending.headers
          (least_within (max (blocks_in (g.extent b Main)) (block + 1)) next used' pending.within least) has.grown;
      within = below_more (max (max (blocks_in (g.extent b Main)) (block + 1)) (next + 1))
          (max (blocks_in (g.extent c Main)) (next + 1)) used''
          (let le = more_blocks block (g.extent b Main) (g.extent c Main) has.grown in omega (arith, le))
          (gains_within (max (blocks_in (g.extent b Main)) (block + 1)) next used' used'' pending.within gains);
    }
      where
        content_less : (blocks : List ℕ) (next : ℕ) → SameContent (IsOther blocks) (g.content a Main) (g.content c Main)
            → SameContent (IsOther (blocks ++ next ∷ [])) (g.content a Main) (g.content c Main)
        content_less blocks next same = content_then (IsOther blocks) (IsOther blocks) (IsOther (blocks ++ next ∷ []))
            (g.content a Main) (g.content c Main) (g.content c Main)
            (λ k off. ((other_less blocks next k off).0, (other_less blocks next k off).0)) same
            (content_same (IsOther blocks) (g.content c Main))

    -- the last part is written
    pub pending_last : (c : D) → HasPart g block (record { next = None; bytes = rest }) b c → WritesBlockAlone g block b c
        → HasBytes g blocks used' bytes a c
    pending_last c has alone = record {
      some = some pending.done block blocks pending.are;
      holds = subst (λ (l : List ℕ). IfSome (g.content c Main) (λ main. HoldsTo main None blocks l)) (sym pending.joined)
          (part_holds None rest c has);
      same = part_same None rest c has;
      within = below_more (max (blocks_in (g.extent b Main)) (block + 1)) (blocks_in (g.extent c Main)) used'
          (more_blocks block (g.extent b Main) (g.extent c Main) has.grown) pending.within;
    }
      where
        some : (done : List ℕ) (block : ℕ) (blocks : List ℕ) → blocks ≡ done ++ block ∷ [] → 0 < length blocks
        some done block blocks is =
            omega (arith, ap (λ (l : List ℕ). length l) is, length-append done (block ∷ []))

pub cut_is : (n : ℕ) (rest front back : List ℕ) → front ≡ take n rest → back ≡ drop n rest → rest ≡ front ++ back
cut_is n rest front back f b =
    sym (take-append-drop n rest) ∙ ap (λ (l : List ℕ). l ++ drop n rest) (sym f)
    ∙ ap (λ (l : List ℕ). front ++ l) (sym b)

-- what was written is read again
pub string_again : (c : Option (List ℕ)) (blocks used used' bytes : List ℕ) → Takes blocks used used'
    → IfSome c (λ main. HoldsTo main None blocks bytes)
    → IfSome c (λ main. (string : StringRef) → first_or None blocks ≡ Some string.root →
    string_at string used main ≡ Ok (record { bytes = bytes; blocks = blocks }))
string_again None blocks used used' bytes takes holds = tt
string_again (Some main) blocks used used' bytes takes holds = λ string root.
    chain_again string used main (record { bytes = bytes; blocks = blocks })
    (record { root = root; holds = holds; unused = takes_unused blocks used used' takes })
