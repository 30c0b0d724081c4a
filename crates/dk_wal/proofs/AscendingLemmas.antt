-- Lists whose keys ascend, and whether two of them share a key.
use Rattle.std.proofs.Common.{◌≡◌, ℕ, ◌-◌, ◌<◌, Bool, true, false, ltb, eqb, List, [], ◌∷◌, ◌++◌, length, take, drop, get_or, Some, None, Option, refl, sym, ap, subst, ◌∙◌, append_assoc, length-append, arith}
use Rattle.std.specs.Prelude.{slice_get}
use Rattle.std.specs.List.{list_any, AllByRecursion}
use Rattle.std.proofs.lemmas.Bool.{ltb-true}
use Rattle.std.proofs.lemmas.List.{take_all}
use Rattle.std.proofs.lemmas.Bool.Decides.{Decides-eqb}
use Rattle.dk_values.specs.declared.value.Value.{Value}
use Rattle.dk_bytes.specs.Reading.{AllFollow}
use Rattle.dk_wal.specs.Counted.{is_behind}
use Rattle.dk_wal.specs.Ascending.{Ascends, first, itself}
use Rattle.dk_wal.specs.Payload.{shares_id}

-- one more thing that fits behind those before it
pub follow_more : {A : Type 0} (Fits : List A → A → Type 0) (earlier xs : List A) (x : A) → AllFollow Fits earlier xs
    → Fits (earlier ++ xs) x → AllFollow Fits earlier (xs ++ x ∷ [])
follow_more Fits earlier [] x h k = (subst (λ (l : List _). Fits l x) (nil_behind earlier) k, tt)
  where
    nil_behind : {A : Type 0} (l : List A) → l ++ [] ≡ l
    nil_behind [] = refl
    nil_behind (y ∷ l) = ap (λ (t : List _). y ∷ t) (nil_behind l)
follow_more Fits earlier (y ∷ xs) x h k = (
  h.0,
  follow_more Fits (earlier ++ y ∷ []) xs x h.1
      (subst (λ (l : List _). Fits l x) (sym (append_assoc earlier (y ∷ []) xs)) k),
)

pub ascends_more : {A : Type 0} (key : A → ℕ) (xs : List A) (x : A) → Ascends key xs → is_behind key xs (key x) ≡ true
    → Ascends key (xs ++ x ∷ [])
ascends_more key xs x h k =
    follow_more (λ earlier thing. is_behind key earlier (key thing) ≡ true) [] xs x h k

-- the last of a list
last_is : {A : Type 0} (xs : List A) (x : A) → slice_get (xs ++ x ∷ []) (length (xs ++ x ∷ []) - 1) ≡ Some x
last_is {A} xs x =
    let place : length xs ≡ length (xs ++ x ∷ []) - 1 = omega (arith, length-append xs (x ∷ [])) in
    subst (λ (i : ℕ). slice_get (xs ++ x ∷ []) i ≡ Some x) place (at_end xs)
  where
    at_end : (l : List A) → slice_get (l ++ x ∷ []) (length l) ≡ Some x
    at_end [] = refl
    at_end (y ∷ l) = at_end l

behind_last : {A : Type 0} (key : A → ℕ) (xs : List A) (x : A) (n : ℕ) → is_behind key (xs ++ x ∷ []) n ≡ true
    → key x < n
behind_last {A} key xs x n h =
    let P : Option A → Type 0 = λ o. elim o [ None ↦ true | Some last ↦ ltb (key last) n ] ≡ true in
    ltb-true (key x) n (subst P (last_is xs x) h)

-- all keys lie above a number
abbrev pub Above : {A : Type 0} → (A → ℕ) → ℕ → List A → Type 0
Above key n xs = AllByRecursion (λ x. n < key x) xs

above_more : {A : Type 0} (key : A → ℕ) (m n : ℕ) (xs : List A) → m < n → Above key n xs → Above key m xs
above_more key m n [] lt h = tt
above_more key m n (x ∷ xs) lt h = (omega (arith, lt, h.0), above_more key m n xs lt h.1)

-- each thing lies above the one before the list
chained : {A : Type 0} (key : A → ℕ) (earlier : List A) (x : A) (xs : List A)
    → AllFollow (λ earlier thing. is_behind key earlier (key thing) ≡ true) (earlier ++ x ∷ []) xs → Above key (key x) xs
chained key earlier x [] h = tt
chained key earlier x (y ∷ xs) h =
    let lt = behind_last key earlier x (key y) h.0 in
    (lt, above_more key (key x) (key y) xs lt (chained key (earlier ++ x ∷ []) y xs h.1))

-- the keys ascend, each below all behind it
abbrev pub Rises : {A : Type 0} → (A → ℕ) → List A → Type 0
Rises key [] = Unit {0}
Rises key (x ∷ xs) = Above key (key x) xs × Rises key xs

rises_from : {A : Type 0} (key : A → ℕ) (earlier xs : List A)
    → AllFollow (λ earlier thing. is_behind key earlier (key thing) ≡ true) earlier xs → Rises key xs
rises_from key earlier [] h = tt
rises_from key earlier (x ∷ xs) h = (chained key earlier x xs h.1, rises_from key (earlier ++ x ∷ []) xs h.1)

pub rises : {A : Type 0} (key : A → ℕ) (xs : List A) → Ascends key xs → Rises key xs
rises key xs h = rises_from key [] xs h

-- ---- which ids are shared

abbrev has : ℕ → List (ℕ × List Value) → Bool
has id updates = list_any (λ (u : ℕ × List Value). eqb u.0 id) updates

not_same : (m n : ℕ) → (m ≡ n → ⊥) → eqb m n ≡ false
not_same m n k = by_test (eqb m n) refl
  where
    by_test : (b : Bool) → eqb m n ≡ b → eqb m n ≡ false
    by_test true e = absurd (k ((Decides-eqb m n).0 e))
    by_test false e = e

none_has : (id : ℕ) (updates : List (ℕ × List Value)) → Above first id updates → has id updates ≡ false
none_has id [] h = refl
none_has id (u ∷ updates) h =
    rw (not_same u.0 id (λ is. omega (arith, is, h.0)), none_has id updates h.1) refl

-- an update below all deletes shares nothing
skip_update : (u : ℕ × List Value) (updates : List (ℕ × List Value)) (deletes : List ℕ) → Above itself u.0 deletes
    → shares_id (u ∷ updates) deletes ≡ shares_id updates deletes
skip_update u updates [] h = refl
skip_update u updates (d ∷ deletes) h =
    rw (not_same u.0 d (λ is. omega (arith, is, h.0)), skip_update u updates deletes h.1) refl

-- a delete below all updates shares nothing
skip_delete : (updates : List (ℕ × List Value)) (d : ℕ) (deletes : List ℕ) → Above first d updates
    → shares_id updates (d ∷ deletes) ≡ shares_id updates deletes
skip_delete updates d deletes h = rw (none_has d updates h) refl

no_updates : (deletes : List ℕ) → shares_id [] deletes ≡ false
no_updates [] = refl
no_updates (d ∷ deletes) = no_updates deletes

-- ---- the walk side by side

behind_first : {A : Type 0} (x : A) (xs : List A) → take (length (x ∷ xs) - 1) (drop 1 (x ∷ xs)) ≡ xs
behind_first x xs =
    let n : length (x ∷ xs) - 1 ≡ length xs = omega arith in
    ap (λ (k : ℕ). take k xs) n ∙ take_all (length xs) xs (omega arith)

-- behind the first the keys ascend too
pub rises_behind : {A : Type 0} (key : A → ℕ) (xs : List A) → 0 < length xs → Rises key xs
    → Rises key (take (length xs - 1) (drop 1 xs))
rises_behind key [] some h = absurd (omega (arith, some))
rises_behind {A} key (x ∷ xs) some h = subst (λ (l : List A). Rises key l) (sym (behind_first x xs)) h.1

-- the first update lies below the first delete
pub pass_update : (left : List (ℕ × List Value)) (others : List ℕ) (u : ℕ × List Value) → 0 < length left
    → 0 < length others → u ≡ get_or left 0 u → u.0 < get_or others 0 0 → Rises itself others
    → shares_id (take (length left - 1) (drop 1 left)) others ≡ shares_id left others
pass_update [] others u some more is lt h = absurd (omega (arith, some))
pass_update (x ∷ left) [] u some more is lt h = absurd (omega (arith, more))
pass_update (x ∷ left) (y ∷ others) u some more is lt h =
    let same : u.0 ≡ x.0 = ap (λ (v : ℕ × List Value). v.0) is in
    let low : x.0 < y = omega (arith, same, lt) in
    ap (λ (l : List (ℕ × List Value)). shares_id l (y ∷ others)) (behind_first x left)
    ∙ sym (skip_update x left (y ∷ others) (low, above_more itself x.0 y others low h.0))

-- the first delete lies below the first update
pub pass_delete : (left : List (ℕ × List Value)) (others : List ℕ) (u : ℕ × List Value) → 0 < length left
    → 0 < length others → u ≡ get_or left 0 u → get_or others 0 0 < u.0 → Rises first left
    → shares_id left (take (length others - 1) (drop 1 others)) ≡ shares_id left others
pass_delete [] others u some more is lt h = absurd (omega (arith, some))
pass_delete (x ∷ left) [] u some more is lt h = absurd (omega (arith, more))
pass_delete (x ∷ left) (y ∷ others) u some more is lt h =
    let same : u.0 ≡ x.0 = ap (λ (v : ℕ × List Value). v.0) is in
    let low : y < x.0 = omega (arith, same, lt) in
    ap (λ (l : List ℕ). shares_id (x ∷ left) l) (behind_first y others)
    ∙ sym (skip_delete (x ∷ left) y others (low, above_more first y x.0 left low h.0))

pub none_shared : (left : List (ℕ × List Value)) (others : List ℕ) → length left < 1 → shares_id left others ≡ false
none_shared [] others h = no_updates others
none_shared (x ∷ left) others h = absurd (omega (arith, h))
