-- Kinds and words as slots.
use Rattle.std.proofs.Common.{◌≡◌, ℕ, zero, suc, ◌<◌, List, [], ◌∷◌, ◌++◌, length, take, get_or, Some, refl, ap, ◌∙◌, arith}
use Rattle.std.specs.Prelude.{slice_get, Result, Ok, Err, OnOk}
use Rattle.dk_rows.specs.declared.slots.Kind.{Kind}
use Rattle.dk_rows.specs.declared.slots.Slot.{Slot}
use Rattle.dk_rows.specs.Slots.{slot_of, slots}

pub slots_len : (ks : List Kind) (ws : List ℕ) → length ks ≡ length ws → length (slots ks ws) ≡ length ks
slots_len [] ws h = refl
slots_len (k ∷ ks) [] h = absurd (omega (arith, h))
slots_len (k ∷ ks) (w ∷ ws) h = ap suc (slots_len ks ws (omega (arith, h)))

pub slots_front : (n : ℕ) (ks : List Kind) (ws : List ℕ) → slots (take n ks) (take n ws) ≡ take n (slots ks ws)
slots_front zero ks ws = refl
slots_front (suc n) [] ws = refl
slots_front (suc n) (k ∷ ks) [] = refl
slots_front (suc n) (k ∷ ks) (w ∷ ws) = ap (λ (xs : List Slot). slot_of k w ∷ xs) (slots_front n ks ws)

pub slots_more : (ks : List Kind) (ws : List ℕ) (k : Kind) (w : ℕ) → length ks ≡ length ws → slots (ks ++ k ∷ []) (ws ++ w ∷ []) ≡ slots ks ws ++ slot_of k w ∷ []
slots_more [] [] k w h = refl
slots_more [] (v ∷ ws) k w h = absurd (omega (arith, h))
slots_more (j ∷ ks) [] k w h = absurd (omega (arith, h))
slots_more (j ∷ ks) (v ∷ ws) k w h = ap (λ (xs : List Slot). slot_of j v ∷ xs) (slots_more ks ws k w (omega (arith, h)))

pub slot_at : (ks : List Kind) (ws : List ℕ) (i : ℕ) (k : Kind) (w : ℕ) → length ks ≡ length ws → i < length ks → k ≡ get_or ks i k → w ≡ get_or ws i w → slice_get (slots ks ws) i ≡ Some (slot_of k w)
slot_at [] ws i k w h lt e f = absurd (omega (arith, lt))
slot_at (j ∷ ks) [] i k w h lt e f = absurd (omega (arith, h))
slot_at (j ∷ ks) (v ∷ ws) zero k w h lt e f = rw (e, f) refl
slot_at (j ∷ ks) (v ∷ ws) (suc i) k w h lt e f = slot_at ks ws i k w (omega (arith, h)) (omega (arith, lt)) e f

-- what a push leaves
pub pushed_slot : {E : Type 0} (r : Result (Unit {0}) E) (ks ks' : List Kind) (ws ws' : List ℕ) (k : Kind) (w : ℕ) (slot : Slot) (shown : List Slot) → length ks ≡ length ws → slots ks ws ≡ shown → slot_of k w ≡ slot
    → OnOk r (ks' ≡ ks ++ k ∷ []) → OnOk r (ws' ≡ ws ++ w ∷ []) → OnOk r (slots ks' ws' ≡ shown ++ slot ∷ [])
pushed_slot (Err e) ks ks' ws ws' k w slot shown h same is p q = tt
pushed_slot (Ok x) ks ks' ws ws' k w slot shown h same is p q =
    rw (p, q) (slots_more ks ws k w h ∙ ap (λ (xs : List Slot). xs ++ slot_of k w ∷ []) same ∙ ap (λ (s : Slot). shown ++ s ∷ []) is)
