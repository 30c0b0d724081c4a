-- What a change of a flag does to the used blocks.
use Rattle.std.specs.Prelude.{◌≡◌, ℕ, ◌+◌, ◌<◌, ◌≤◌, Bool, true, false, nat_lt, ◌==◌, if◌then◌else◌, List, [], ◌∷◌, ◌++◌, length, get_or, set, Result, Ok, Err, OnErr, refl}
use Rattle.std.proofs.Common.{inl, inr, sym, ◌∙◌, ap, arith}
use Rattle.std.proofs.lemmas.Bool.{cases_lt, le-ltb, lt-ltb, eq-eqb, ne_eqb}
use Rattle.std.proofs.lemmas.Bool.Decides.{eqb_tells}
use Rattle.std.proofs.lemmas.List.{get_or_default, get_or_past, get_or-set_other}
use Rattle.std.proofs.lemmas.Grind.{get_or-set_at}
use Rattle.dk_block_man.specs.Used.{used_of, is_among, least_unused, with_block, without_block, AreBelow, AllUsed, IsLeastUnused, Gains, Loses}
use Rattle.dk_block_man.proofs.FlagLemmas.{among, used-set, used-push, used-clear, least-is}

from_zero : (n : ℕ) → 0 + n ≡ n
from_zero n = omega arith

pub is_set : (flags : List Bool) (block : ℕ) → is_among (used_of flags) block ≡ get_or flags block false
is_set flags block = ap (λ n. is_among (used_of flags) n) (sym (from_zero block)) ∙ among 0 block flags

pub read_is : (flags : List Bool) (used : List ℕ) (block : ℕ) (b : Bool) → used_of flags ≡ used
    → b ≡ get_or flags block b → block < length flags → b ≡ is_among used block
read_is flags used block b is reads lt =
    reads ∙ get_or_default flags block b false lt ∙ sym (is_set flags block) ∙ ap (λ (l : List ℕ). is_among l block) is

pub past_is : (flags : List Bool) (used : List ℕ) (block : ℕ) → used_of flags ≡ used → length flags ≤ block
    → false ≡ is_among used block
past_is flags used block is le = sym (get_or_past flags block false le) ∙ sym (is_set flags block)
    ∙ ap (λ (l : List ℕ). is_among l block) is

pub among_within : (flags : List Bool) (used : List ℕ) (block : ℕ) → used_of flags ≡ used
    → is_among used block ≡ true → block < length flags
among_within flags used block is on = elim (cases_lt block (length flags)) [
  | inl lt ↦ lt
  | inr past ↦ let no = past_is flags used block is past in cc
]

pub set_of : (flags : List Bool) (block : ℕ) → block < length flags → get_or flags block false ≡ false
    → used_of (set flags block true) ≡ with_block block (used_of flags)
set_of flags block lt off = used-set 0 block flags lt off ∙ ap (λ n. with_block n (used_of flags)) (from_zero block)

pub push_of : (flags : List Bool) (block : ℕ) → block ≡ length flags
    → used_of (flags ++ true ∷ []) ≡ with_block block (used_of flags)
push_of flags block is = used-push 0 flags ∙ ap (λ n. with_block n (used_of flags)) (from_zero (length flags) ∙ sym is)

pub clear_of : (flags : List Bool) (used : List ℕ) (block : ℕ) → used_of flags ≡ used → is_among used block ≡ true
    → used_of (set flags block false) ≡ without_block block used
clear_of flags used block is on =
    let set_there : get_or flags block false ≡ true = sym (is_set flags block)
    ∙ ap (λ (l : List ℕ). is_among l block) is ∙ on in
    used-clear 0 block flags set_there ∙ ap (λ n. without_block n (used_of flags)) (from_zero block)
    ∙ ap (λ (l : List ℕ). without_block block l) is

pub least_of : (flags : List Bool) (used : List ℕ) (place : ℕ) → used_of flags ≡ used → AllUsed place flags
    → (place < length flags → get_or flags place false ≡ false) → place ≡ least_unused used
least_of flags used place is all off =
    sym (from_zero place) ∙ sym (least-is 0 place flags all.within all.set off) ∙ ap (λ (l : List ℕ). least_unused l) is

pub unused_of : (flags : List Bool) (used : List ℕ) (place : ℕ) → used_of flags ≡ used
    → (place < length flags → get_or flags place false ≡ false) → is_among used place ≡ false
unused_of flags used place is off = elim (cases_lt place (length flags)) [
  | inl lt ↦ ap (λ (l : List ℕ). is_among l place) (sym is) ∙ is_set flags place ∙ off lt
  | inr past ↦ sym (past_is flags used place is past)
]

pub on_err : {T E P : Type 0} (r : Result T E) → P → OnErr r P
on_err (Ok x) p = tt
on_err (Err e) p = p

pub mark_of : (flags : List Bool) (used : List ℕ) (block : ℕ) (b : Bool) → used_of flags ≡ used
    → b ≡ get_or flags block b → b ≡ false → block < length flags
    → used_of (set flags block true) ≡ with_block block used
mark_of flags used block b is reads off lt =
    let unset : get_or flags block false ≡ false = sym (get_or_default flags block b false lt) ∙ sym reads ∙ off in
    set_of flags block lt unset ∙ ap (λ (l : List ℕ). with_block block l) is

pub else_is : (flags : List Bool) (used : List ℕ) (block len : ℕ) → used_of flags ≡ used → length flags ≤ block
    → len ≤ block → nat_lt block len ≡ is_among used block
else_is flags used block len is le past = le-ltb block len past ∙ past_is flags used block is le

-- a change of one flag, told of each block
picked : {T : Type 0} (b : Bool) (x y : T) → b ≡ true → x ≡ (if b then x else y)
picked b x y is = rw is refl

passed : {T : Type 0} (b : Bool) (x y : T) → b ≡ false → y ≡ (if b then x else y)
passed b x y is = rw is refl

pub others_set : (flags : List Bool) (used : List ℕ) (block : ℕ) (v : Bool) (k : ℕ) → used_of flags ≡ used
    → block < length flags
    → is_among (used_of (set flags block v)) k ≡ (if k == block then v else is_among used k)
others_set flags used block v k is lt = is_set (set flags block v) k ∙ elim (eqb_tells k block) [
  | inl same ↦ get_or-set_at flags block k v false same.1 lt ∙ picked (k == block) v (is_among used k) same.0
  | inr other ↦
      get_or-set_other flags block k v false other.1
      ∙ sym (is_set flags k)
      ∙ ap (λ (l : List ℕ). is_among l k) is
      ∙ passed (k == block) v (is_among used k) other.0
]

pub within_of : (flags : List Bool) (used : List ℕ) (blocks : ℕ) → used_of flags ≡ used → length flags ≡ blocks
    → AreBelow blocks used
within_of flags used blocks is len k on = let lt = among_within flags used k is on in omega (arith, lt, len)

pub within_flags : (flags : List Bool) → AreBelow (length flags) (used_of flags)
within_flags flags k on = among_within flags (used_of flags) k refl on

-- what is used already changes nothing
pub others_same : (used : List ℕ) (block k : ℕ) → is_among used block ≡ true
    → is_among used k ≡ (if k == block then true else is_among used k)
others_same used block k on = elim (eqb_tells k block) [
  | inl same ↦ ap (λ n. is_among used n) same.1 ∙ on ∙ picked (k == block) true (is_among used k) same.0
  | inr other ↦ passed (k == block) true (is_among used k) other.0
]

pub lesser_of : (flags : List Bool) (used : List ℕ) (place k : ℕ) → used_of flags ≡ used → AllUsed place flags
    → k < place → is_among used k ≡ true
lesser_of flags used place k is all lt = ap (λ (l : List ℕ). is_among l k) (sym is) ∙ is_set flags k ∙ all.set k lt

pub among_with : (block k : ℕ) (used : List ℕ)
    → is_among (with_block block used) k ≡ (if k == block then true else is_among used k)
among_with block k [] = elim (eqb_tells k block) [
  | inl same ↦ rw (same.0, eq-eqb block k (sym same.1)) refl
  | inr other ↦ rw (other.0, ne_eqb block k (λ e. other.1 (sym e))) refl
]
among_with block k (x ∷ used) = elim (cases_lt block x) [
  | inl lt ↦ rw (lt-ltb block x lt) (elim (eqb_tells k block) [
    | inl same ↦ rw (same.0, eq-eqb block k (sym same.1)) refl
    | inr other ↦ rw (other.0, ne_eqb block k (λ e. other.1 (sym e))) refl
  ])
  | inr le ↦ rw (le-ltb block x le) (elim (eqb_tells x k) [
    | inl same ↦ rw same.0 (always (k == block))
    | inr other ↦ rw other.0 (among_with block k used)
  ])
]
  where
    always : (b : Bool) → true ≡ (if b then true else true)
    always true = refl
    always false = refl

-- a block that is taken and given back
pub restored : (block : ℕ) (used : List ℕ) → is_among used block ≡ false
    → without_block block (with_block block used) ≡ used
restored block [] off = rw (eq-eqb block block refl) refl
restored block (x ∷ used) off = elim (eqb_tells x block) [
  | inl same ↦ absurd (there (is_among used block) same.0 off)
  | inr other ↦ elim (cases_lt block x) [
    | inl lt ↦ rw (lt-ltb block x lt, eq-eqb block block refl) refl
    | inr le ↦ rw (le-ltb block x le, other.0) (ap (λ (l : List ℕ). x ∷ l) (restored block used (behind other.0 off)))
  ]
]
  where
    there : (rest : Bool) → (x == block) ≡ true → is_among (x ∷ used) block ≡ false → ⊥
    there rest is = rw is (λ e. cc)

    behind : (x == block) ≡ false → is_among (x ∷ used) block ≡ false → is_among used block ≡ false
    behind is = rw is (λ e. e)

pub restores_of : (block : ℕ) (new old used : List ℕ) → new ≡ with_block block old → old ≡ used
    → is_among used block ≡ false → without_block block new ≡ used
restores_of block new old used is same off =
    ap (λ (l : List ℕ). without_block block l) (is ∙ ap (λ (l : List ℕ). with_block block l) same)
    ∙ restored block used off

pub others_with : (block k : ℕ) (new old used : List ℕ) → new ≡ with_block block old → old ≡ used
    → is_among new k ≡ (if k == block then true else is_among used k)
others_with block k new old used is same =
    ap (λ (l : List ℕ). is_among l k) (is ∙ ap (λ (l : List ℕ). with_block block l) same) ∙ among_with block k used

-- the first flag that isn't set is that of the least unused block
pub least_unused_of : (flags : List Bool) (used : List ℕ) (place : ℕ) → used_of flags ≡ used → AllUsed place flags
    → (place < length flags → get_or flags place false ≡ false) → IsLeastUnused place used
least_unused_of flags used place is all off = record {
  is = least_of flags used place is all off;
  unused = unused_of flags used place is off;
  lesser = λ k lt. lesser_of flags used place k is all lt;
}

-- an unused block that is marked
pub gains_of : (block : ℕ) (new old used : List ℕ) → new ≡ with_block block old → old ≡ used
    → is_among used block ≡ false → Gains block used new
gains_of block new old used is same off = record {
  is = is ∙ ap (λ (l : List ℕ). with_block block l) same;
  others = λ k. others_with block k new old used is same;
  restores = restores_of block new old used is same off;
}

-- a used block whose flag is cleared
pub loses_of : (flags : List Bool) (used : List ℕ) (block : ℕ) → used_of flags ≡ used → is_among used block ≡ true
    → Loses block used (used_of (set flags block false))
loses_of flags used block is on = record {
  is = clear_of flags used block is on;
  others = λ k. others_set flags used block false k is (among_within flags used block is on);
}
