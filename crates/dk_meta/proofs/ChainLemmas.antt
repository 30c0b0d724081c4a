-- The payload of a block of a chain: what is read is spelled there, and what is spelled there is read.
use Rattle.std.proofs.Common.{◌≡◌, ℕ, zero, suc, ◌-◌, ◌^◌, ◌<◌, ◌≤◌, Bool, true, false, cond, ltb, leb, eqb, List, [], ◌∷◌, ◌++◌, length, take, drop, replicate, Option, Some, None, Result, Ok, Err, refl, sym, ap, subst, ◌∙◌, arith, ◌&&◌, ◌==◌}
use Rattle.std.specs.Prelude.{IfOk, IfSome, IsSome}
use Rattle.std.specs.List.{list_all}
use Rattle.std.specs.Int.{w32, w64, to_le_bytes, from_le_bytes}
use Rattle.std.proofs.lemmas.Bool.{ltb-true, leb-true, le-leb, lt-ltb, and_parts}
use Rattle.std.proofs.lemmas.Bool.Decides.{Decides-eqb}
use Rattle.std.proofs.lemmas.List.{take-append-drop, length-take, length-drop, take_at, drop_at}
use Rattle.dk_bytes.specs.Fields.{IsBytes}
use Rattle.dk_bytes.specs.Reading.{Answers}
use Rattle.dk_bytes.proofs.NumberLemmas.{IsBytes-take, IsBytes-drop, chosen_ok, wide32, wide64}
use Rattle.dk_meta.specs.Strings.{IsString}
use Rattle.dk_meta.specs.Chain.{Part, IsPart, next_number, part_bytes, next_of, is_length, filled, part_at}

-- ---- zeros

pub zeros_are : (bytes : List ℕ) → list_all (λ byte. byte == 0) bytes ≡ true → bytes ≡ replicate (length bytes) 0
zeros_are [] h = refl
zeros_are (b ∷ bytes) h =
    let parts = and_parts (eqb b 0) (list_all (λ byte. eqb byte 0) bytes) h in
    let first : b ≡ 0 = (Decides-eqb b 0).0 parts.0 in
    ap (λ (k : ℕ). k ∷ bytes) first ∙ ap (λ (l : List ℕ). 0 ∷ l) (zeros_are bytes parts.1)

pub are_zeros : (n : ℕ) → list_all (λ byte. byte == 0) (replicate n 0) ≡ true
are_zeros zero = refl
are_zeros (suc n) = are_zeros n

-- ---- the next block

named_by : (b : Bool) (number : ℕ) → (b ≡ true → number ≡ 2 ^ 64 - 1)
    → next_number (cond b None (Some number)) ≡ number
named_by true number h = sym (h refl)
named_by false number h = refl

number_named : (number : ℕ) → next_number (next_of number) ≡ number
number_named number = named_by (eqb number (2 ^ 64 - 1)) number (Decides-eqb number (2 ^ 64 - 1)).0

block_by : (b : Bool) (number : ℕ) → number < 2 ^ 64 → (number ≡ 2 ^ 64 - 1 → b ≡ true)
    → IfSome (cond b None (Some number)) (λ block. block < 2 ^ 64 - 1)
block_by true number lt h = tt
block_by false number lt h = below number lt (λ e. let wrong : false ≡ true = h e in cc)
  where
    below : (n : ℕ) → n < 2 ^ 64 → (n ≡ 2 ^ 64 - 1 → ⊥) → n < 2 ^ 64 - 1
    below n lt h = omega arith

is_block : (number : ℕ) → number < 2 ^ 64 → IfSome (next_of number) (λ block. block < 2 ^ 64 - 1)
is_block number lt = block_by (eqb number (2 ^ 64 - 1)) number lt (Decides-eqb number (2 ^ 64 - 1)).1

block_named : (next : Option ℕ) → IfSome next (λ block. block < 2 ^ 64 - 1) → next_of (next_number next) ≡ next
block_named None h = refl
block_named (Some block) h =
    let other : eqb block (2 ^ 64 - 1) ≡ false =
    unless (eqb block (2 ^ 64 - 1)) (λ e. let same : block ≡ 2 ^ 64 - 1 = (Decides-eqb block (2 ^ 64 - 1)).0 e in omega arith) in
    rw other refl
  where
    unless : (b : Bool) → (b ≡ true → ⊥) → b ≡ false
    unless true k = absurd (k refl)
    unless false k = refl

number_fits : (next : Option ℕ) → IfSome next (λ block. block < 2 ^ 64 - 1) → next_number next < 2 ^ 64
number_fits None h = omega arith
number_fits (Some block) h = omega arith

-- ---- the number of bytes

pub record HasLength (next : Option ℕ) (len : ℕ) : Type 0 where
  pub some : 1 ≤ len
  pub few : len ≤ 262124
  pub full : IsSome next → len ≡ 262124

no_next : {A : Type 0} → false ≡ true → A
no_next h = absurd cc

has_length : (next : Option ℕ) (len : ℕ) → is_length next len ≡ true → HasLength next len
has_length None len h =
    let parts = and_parts (ltb 0 len) (leb len 262124) h in
    record { some = ltb-true 0 len parts.0; few = leb-true len 262124 parts.1; full = λ none. no_next none }
has_length (Some block) len h =
    let same : len ≡ 262124 = (Decides-eqb len 262124).0 h in
    record { some = omega arith; few = omega arith; full = λ _. same }

length_fits : (next : Option ℕ) (len : ℕ) → HasLength next len → is_length next len ≡ true
length_fits None len h = both (ltb 0 len) (leb len 262124) (lt-ltb 0 len h.some) (le-leb len 262124 h.few)
  where
    both : (b c : Bool) → b ≡ true → c ≡ true → (b && c) ≡ true
    both true true e f = refl
    both true false e f = absurd cc
    both false c e f = absurd cc
length_fits (Some block) len h = (Decides-eqb len 262124).1 (h.full refl)

-- ---- the payload

chosen : {A : Type 0} (b : Bool) (d : ℕ) (r : Result A ℕ) (y : A) → cond b r (Err d) ≡ Ok y → (b ≡ true) × (r ≡ Ok y)
chosen true d r y e = (refl, e)
chosen false d r y e = absurd cc

-- the parts of a payload joined
joined : (payload : List ℕ) (used : ℕ)
    → payload ≡ take 8 payload ++ (take 4 (drop 8 payload) ++
    (take used (drop 4 (drop 8 payload)) ++ drop used (drop 4 (drop 8 payload))))
joined payload used =
    sym (take-append-drop 8 payload) ∙ ap (λ (l : List ℕ). take 8 payload ++ l)
    (sym (take-append-drop 4 (drop 8 payload)) ∙ ap (λ (l : List ℕ). take 4 (drop 8 payload) ++ l)
    (sym (take-append-drop used (drop 4 (drop 8 payload)))))

swapped : (a a' b b' c d d' : List ℕ) → a ≡ a' → b ≡ b' → d ≡ d' → a ++ (b ++ (c ++ d)) ≡ a' ++ (b' ++ (c ++ d'))
swapped a a' b b' c d d' p q r = cc

respelled : (a n k u : ℕ) (bytes : List ℕ) → a ≡ n → k ≡ u
    → to_le_bytes w64 n ++ (to_le_bytes w32 u ++ (bytes ++ replicate (262124 - u) 0))
    ≡ to_le_bytes w64 a ++ (to_le_bytes w32 k ++ (bytes ++ replicate (262124 - k) 0))
respelled a n k u bytes p q = rw (p, q) refl

-- a payload that is read spells its part
pub part_takes : (payload : List ℕ) (part : Part) → IsBytes payload → length payload ≡ 262136
    → part_at payload ≡ Ok part → IsString IsPart part_bytes part payload
part_takes payload part fits len e =
    let number = from_le_bytes w64 (take 8 payload) in
    let used = from_le_bytes w32 (take 4 (drop 8 payload)) in
    let rest = drop 4 (drop 8 payload) in
    let a = chosen (is_length (next_of number) used) 0
    (cond (list_all (λ byte. eqb byte 0) (drop used rest)) (Ok (record { next = next_of number; bytes = take used rest }))
    (Err used)) part e in
    let b = chosen_ok (list_all (λ byte. eqb byte 0) (drop used rest)) used
    (record { next = next_of number; bytes = take used rest }) part a.1 in
    let h = has_length (next_of number) used a.0 in
    let long : length (drop 4 (drop 8 payload)) ≡ 262124 =
    omega (arith, length-drop 4 (drop 8 payload), length-drop 8 payload) in
    let count : length (take used rest) ≡ used = omega (arith, length-take used rest, h.few) in
    let left : length (drop used rest) ≡ 262124 - used = omega (arith, length-drop used rest) in
    let front : to_le_bytes w64 number ≡ take 8 payload =
    wide64.back (take 8 payload) (omega (arith, length-take 8 payload)) (IsBytes-take 8 payload fits) in
    let middle : to_le_bytes w32 used ≡ take 4 (drop 8 payload) =
    wide32.back (take 4 (drop 8 payload)) (omega (arith, length-take 4 (drop 8 payload), length-drop 8 payload))
    (IsBytes-take 4 (drop 8 payload) (IsBytes-drop 8 payload fits)) in
    let zeros : drop used rest ≡ replicate (262124 - used) 0 =
    zeros_are (drop used rest) b.0 ∙ ap (λ (k : ℕ). replicate k 0) left in
    subst (λ (p : Part). IsString IsPart part_bytes p payload) b.1
    (told payload number used (take used rest) h (wide64.below (take 8 payload) (IsBytes-take 8 payload fits)) count
    (joined payload used ∙ swapped (take 8 payload) (to_le_bytes w64 number) (take 4 (drop 8 payload))
    (to_le_bytes w32 used) (take used rest) (drop used rest) (replicate (262124 - used) 0) (sym front) (sym middle)
    zeros))
  where
    told : (payload : List ℕ) (number used : ℕ) (bytes : List ℕ) → HasLength (next_of number) used → number < 2 ^ 64
        → length bytes ≡ used
        → payload ≡ to_le_bytes w64 number ++ (to_le_bytes w32 used ++ (bytes ++ replicate (262124 - used) 0))
        → IsString IsPart part_bytes (record { next = next_of number; bytes = bytes }) payload
    told payload number used bytes h lt count e = record {
      lawful = record {
        next = is_block number lt;
        some = subst (λ (k : ℕ). 1 ≤ k) (sym count) h.some;
        few = subst (λ (k : ℕ). k ≤ 262124) (sym count) h.few;
        full = λ some. count ∙ h.full some;
      };
      spelled = e ∙ respelled (next_number (next_of number)) number (length bytes) used bytes (number_named number) count;
    }

read_back : (number used : ℕ) (next : Option ℕ) (bytes : List ℕ) → next_of number ≡ next → used ≡ length bytes
    → is_length next (length bytes) ≡ true
    → filled (next_of number) used (bytes ++ replicate (262124 - length bytes) 0) ≡ Ok
    (record { next = next; bytes = bytes })
read_back number used next bytes p q fits = rw (
  p,
  q,
  fits,
  drop_at bytes (replicate (262124 - length bytes) 0) (length bytes) refl,
  are_zeros (262124 - length bytes),
  take_at bytes (replicate (262124 - length bytes) 0) (length bytes) refl,
) refl

-- a part that is spelled is read
pub part_again : (payload : List ℕ) (part : Part) → IsString IsPart part_bytes part payload → part_at payload ≡ Ok part
part_again payload part h =
    let fits : is_length part.next (length part.bytes) ≡ true = length_fits part.next (length part.bytes)
    (record { some = h.lawful.some; few = h.lawful.few; full = h.lawful.full }) in
    let small : length part.bytes < 2 ^ 32 = below (length part.bytes) h.lawful.few in
    let next : next_of (from_le_bytes w64 (to_le_bytes w64 (next_number part.next))) ≡ part.next =
    ap (λ (n : ℕ). next_of n) (wide64.again (next_number part.next) (number_fits part.next h.lawful.next))
    ∙ block_named part.next h.lawful.next in
    let P : List ℕ → Type 0 = λ l. part_at l ≡ Ok part in
    subst P (sym h.spelled)
    (read_back (from_le_bytes w64 (to_le_bytes w64 (next_number part.next)))
    (from_le_bytes w32 (to_le_bytes w32 (length part.bytes))) part.next part.bytes next
    (wide32.again (length part.bytes) small) fits)
  where
    below : (n : ℕ) → n ≤ 262124 → n < 2 ^ 32
    below n h = omega arith

-- ---- what a call answered

module _ {X E : Type 0} (place : E → Option ℕ) (view : X → Part) (result : Result X E) (payload : List ℕ)
    (answers : Answers place view result (part_at payload)) where
  pub part_found : IsBytes payload → length payload ≡ 262136
      → IfOk result (λ x. IsString IsPart part_bytes (view x) payload)
  part_found fits len = by_result result answers
    where
      by_result : (r : Result X E) → Answers place view r (part_at payload)
          → IfOk r (λ x. IsString IsPart part_bytes (view x) payload)
      by_result (Ok x) a = part_takes payload (view x) fits len a
      by_result (Err e) a = tt

  pub part_only : (part : Part) → IsString IsPart part_bytes part payload → Answers place view result (Ok part)
  part_only part h = subst (λ (r : Result Part ℕ). Answers place view result r) (part_again payload part h) answers
