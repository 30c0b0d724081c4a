-- Values in slots.
use Rattle.std.proofs.Common.{◌≡◌, ℕ, ℤ, zero, suc, pos, ◌+◌, ◌-◌, ◌<◌, ◌≤◌, List, [], ◌∷◌, ◌++◌, length, map, take, drop, get_or, sum_by, Some, refl, ap, sym, ◌∙◌, subst, arith}
use Rattle.std.specs.Prelude.{slice_get}
use Rattle.std.proofs.lemmas.List.{length-map, length-take-le, map-append, take-map}
use Rattle.std.proofs.lemmas.List.Sums.{sum_by-cons}
use Rattle.dk_values.specs.declared.value.Value.{Value}
use Rattle.dk_rows.specs.declared.slots.Slot.{Slot}
use Rattle.dk_rows.specs.declared.slots.Slot.TheVariants as places
use Rattle.dk_rows.specs.Values.{value_in, values_in, text_count, sum_count, IsNext, IsThere, AllNamed, Keeps}

pub values_len : (texts : List (List ℕ)) (sums : List ℤ) (slots : List Slot) → length (map (value_in texts sums) slots) ≡ length slots
values_len texts sums slots = length-map slots (value_in texts sums)

-- as many texts and sums as the slots name
pub counts : (T S t s : ℕ) (slots : List Slot) → AllNamed T S t s slots → (t + sum_by text_count slots ≡ T) × (s + sum_by sum_count slots ≡ S)
counts T S t s [] h = (omega (arith, h.0), omega (arith, h.1))
counts T S t s (slot ∷ slots) h =
    let ih = counts T S (t + text_count slot) (s + sum_count slot) slots h.1 in
    (omega (arith, ih.0, sum_by-cons text_count slot slots), omega (arith, ih.1, sum_by-cons sum_count slot slots))

next_is_there : (T S t s : ℕ) (slot : Slot) → IsNext t s slot → t + text_count slot ≤ T → s + sum_count slot ≤ S → IsThere T S slot
next_is_there T S t s places.Null h a b = tt
next_is_there T S t s (places.Bool x) h a b = tt
next_is_there T S t s (places.Int x) h a b = tt
next_is_there T S t s (places.Big x) h a b = tt
next_is_there T S t s (places.Text x) h a b = omega (arith, h, a)
next_is_there T S t s (places.Huge x) h a b = omega (arith, h, b)

pub there_at : (T S t s : ℕ) (slots : List Slot) (i : ℕ) (slot : Slot) → AllNamed T S t s slots → slice_get slots i ≡ Some slot → IsThere T S slot
there_at T S t s [] i slot h e = absurd cc
there_at T S t s (first ∷ slots) zero slot h e =
    let same : first ≡ slot = cc in
    let rest = counts T S (t + text_count first) (s + sum_count first) slots h.1 in
    subst (λ (x : Slot). IsThere T S x) same (next_is_there T S t s first h.0 (omega (arith, rest.0)) (omega (arith, rest.1)))
there_at T S t s (first ∷ slots) (suc i) slot h e = there_at T S (t + text_count first) (s + sum_count first) slots i slot h.1 e

pub value_at : (texts : List (List ℕ)) (sums : List ℤ) (slots : List Slot) (i : ℕ) (slot : Slot) → slice_get slots i ≡ Some slot → slice_get (map (value_in texts sums) slots) i ≡ Some (value_in texts sums slot)
value_at texts sums [] i slot e = absurd cc
value_at texts sums (first ∷ slots) zero slot e = let same : first ≡ slot = cc in rw same refl
value_at texts sums (first ∷ slots) (suc i) slot e = value_at texts sums slots i slot e

-- a text or sum that is there reads the same in a front that has it
get_or_front : {T : Type 0} (n : ℕ) (xs : List T) (i : ℕ) (d : T) → i < n → get_or (take n xs) i d ≡ get_or xs i d
get_or_front zero xs i d h = absurd (omega (arith, h))
get_or_front (suc n) [] i d h = refl
get_or_front (suc n) (x ∷ xs) zero d h = refl
get_or_front (suc n) (x ∷ xs) (suc i) d h = get_or_front n xs i d (omega (arith, h))

same_value : (texts : List (List ℕ)) (sums : List ℤ) (T S : ℕ) (slot : Slot) → IsThere T S slot → value_in (take T texts) (take S sums) slot ≡ value_in texts sums slot
same_value texts sums T S places.Null h = refl
same_value texts sums T S (places.Bool x) h = refl
same_value texts sums T S (places.Int x) h = refl
same_value texts sums T S (places.Big x) h = refl
same_value texts sums T S (places.Text x) h = rw (get_or_front T texts x [] h) refl
same_value texts sums T S (places.Huge x) h = rw (get_or_front S sums x (pos 0) h) refl

-- slots read the same in the texts and sums that they name
same_values : (texts : List (List ℕ)) (sums : List ℤ) (T S t s : ℕ) (slots : List Slot) → AllNamed T S t s slots → map (value_in (take T texts) (take S sums)) slots ≡ map (value_in texts sums) slots
same_values texts sums T S t s [] h = refl
same_values texts sums T S t s (slot ∷ slots) h =
    let rest = counts T S (t + text_count slot) (s + sum_count slot) slots h.1 in
    let one = same_value texts sums T S slot (next_is_there T S t s slot h.0 (omega (arith, rest.0)) (omega (arith, rest.1))) in
    ap (λ (v : Value). v ∷ map (value_in (take T texts) (take S sums)) slots) one ∙ ap (λ (vs : List Value). value_in texts sums slot ∷ vs) (same_values texts sums T S (t + text_count slot) (s + sum_count slot) slots h.1)

named_more : (T S t s : ℕ) (slots : List Slot) (slot : Slot) → AllNamed T S t s slots → IsNext T S slot → AllNamed (T + text_count slot) (S + sum_count slot) t s (slots ++ slot ∷ [])
named_more T S t s [] slot h n = (subst (λ (x : ℕ). IsNext x s slot) (sym h.0) (subst (λ (x : ℕ). IsNext T x slot) (sym h.1) n), (omega (arith, h.0), omega (arith, h.1)))
named_more T S t s (first ∷ slots) slot h n = (h.0, named_more T S (t + text_count first) (s + sum_count first) slots slot h.1 n)

named_front : (T S t s : ℕ) (slots : List Slot) (n : ℕ) → AllNamed T S t s slots → AllNamed (T - sum_by text_count (drop n slots)) (S - sum_by sum_count (drop n slots)) t s (take n slots)
named_front T S t s [] zero h = (omega (arith, h.0), omega (arith, h.1))
named_front T S t s [] (suc n) h = (omega (arith, h.0), omega (arith, h.1))
named_front T S t s (slot ∷ slots) zero h = let all = counts T S t s (slot ∷ slots) h in (omega (arith, all.0), omega (arith, all.1))
named_front T S t s (slot ∷ slots) (suc n) h = (h.0, named_front T S (t + text_count slot) (s + sum_count slot) slots n h.1)

-- the values of slots, one more kept
pub values_more : (texts texts' : List (List ℕ)) (sums sums' : List ℤ) (slots : List Slot) (value : Value) (slot : Slot) → AllNamed (length texts) (length sums) 0 0 slots → Keeps texts texts' sums sums' value slot
    → values_in texts' sums' (slots ++ slot ∷ []) ≡ values_in texts sums slots ++ value ∷ []
values_more texts texts' sums sums' slots value slot h k =
    map-append (value_in texts' sums') slots (slot ∷ [])
    ∙ ap (λ (vs : List Value). vs ++ value_in texts' sums' slot ∷ []) (sym (same_values texts' sums' (length texts) (length sums) 0 0 slots h)
    ∙ ap (λ (ts : List (List ℕ)). map (value_in ts (take (length sums) sums')) slots) k.texts_front ∙ ap (λ (ss : List ℤ). map (value_in texts ss) slots) k.sums_front)
    ∙ ap (λ (v : Value). values_in texts sums slots ++ v ∷ []) k.stands

pub named_one_more : (texts texts' : List (List ℕ)) (sums sums' : List ℤ) (slots : List Slot) (value : Value) (slot : Slot) → AllNamed (length texts) (length sums) 0 0 slots → Keeps texts texts' sums sums' value slot
    → AllNamed (length texts') (length sums') 0 0 (slots ++ slot ∷ [])
named_one_more texts texts' sums sums' slots value slot h k = rw (k.texts_len, k.sums_len) (named_more _ _ 0 0 slots slot h k.next)

-- the values of the first slots, with the texts and sums that they name
values_front : (texts : List (List ℕ)) (sums : List ℤ) (T S n : ℕ) (slots : List Slot) → AllNamed T S 0 0 (take n slots) → values_in (take T texts) (take S sums) (take n slots) ≡ take n (values_in texts sums slots)
values_front texts sums T S n slots h = same_values texts sums T S 0 0 (take n slots) h ∙ sym (take-map (value_in texts sums) n slots)

-- the count at a slot, and of those behind it
pub sum_behind : (f : Slot → ℕ) (slots : List Slot) (i : ℕ) (slot : Slot) → slice_get slots i ≡ Some slot → sum_by f (drop i slots) ≡ f slot + sum_by f (drop (i + 1) slots)
sum_behind f [] i slot e = absurd cc
sum_behind f (first ∷ slots) zero slot e = let same : first ≡ slot = cc in rw same (sum_by-cons f slot slots)
sum_behind f (first ∷ slots) (suc i) slot e =
    let next : suc i + 1 ≡ suc (i + 1) = omega arith in
    sum_behind f slots i slot e ∙ ap (λ (k : ℕ). f slot + sum_by f (drop k (first ∷ slots))) (sym next)

pub text_most : (slot : Slot) → text_count slot ≤ 1
text_most places.Null = omega arith
text_most (places.Bool x) = omega arith
text_most (places.Int x) = omega arith
text_most (places.Big x) = omega arith
text_most (places.Text x) = omega arith
text_most (places.Huge x) = omega arith

pub sum_most : (slot : Slot) → sum_count slot ≤ 1
sum_most places.Null = omega arith
sum_most (places.Bool x) = omega arith
sum_most (places.Int x) = omega arith
sum_most (places.Big x) = omega arith
sum_most (places.Text x) = omega arith
sum_most (places.Huge x) = omega arith

pub most : (f : Slot → ℕ) → ((slot : Slot) → f slot ≤ 1) → (slots : List Slot) → sum_by f slots ≤ length slots
most f one [] = omega arith
most f one (slot ∷ slots) = omega (arith, sum_by-cons f slot slots, one slot, most f one slots)

-- the texts and the sums that the first n slots name
pub truncated_named : (texts : List (List ℕ)) (sums : List ℤ) (slots : List Slot) (n : ℕ) → AllNamed (length texts) (length sums) 0 0 slots
    → AllNamed (length (take (length texts - sum_by text_count (drop n slots)) texts)) (length (take (length sums - sum_by sum_count (drop n slots)) sums)) 0 0 (take n slots)
truncated_named texts sums slots n h =
    let t = length-take-le (length texts - sum_by text_count (drop n slots)) texts (omega arith) in
    let s = length-take-le (length sums - sum_by sum_count (drop n slots)) sums (omega arith) in
    rw (t, s) (named_front _ _ 0 0 slots n h)

pub truncated_values : (texts : List (List ℕ)) (sums : List ℤ) (slots : List Slot) (n : ℕ) → AllNamed (length texts) (length sums) 0 0 slots
    → values_in (take (length texts - sum_by text_count (drop n slots)) texts) (take (length sums - sum_by sum_count (drop n slots)) sums) (take n slots) ≡ take n (values_in texts sums slots)
truncated_values texts sums slots n h = values_front texts sums _ _ n slots (named_front _ _ 0 0 slots n h)
