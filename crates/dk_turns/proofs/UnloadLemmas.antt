-- How the slots are emptied, one after another.
use Rattle.std.proofs.Common.{◌≡◌, ℕ, zero, suc, ◌+◌, ◌<◌, ◌≤◌, List, [], ◌∷◌, ◌++◌, Bool, true, false, map, take, set, get_or, refl, sym, ap, ◌∙◌, arith, add-one, get_or-set_other}
use Rattle.std.proofs.lemmas.List.{map-append}
use Rattle.std.specs.Prelude.{Option, Some, slice_index_or, slice_set}
use mathlib.Core.Option.{some, some-injective, some-ne-none}
use mathlib.Core.Logic.{dite}
use native.Mathlib.Decide.{ℕ_discrete}
use lib.ListN.{get_elem?}
use Rattle.dk_turns.specs.declared.layout.TheConstants.{TURNS}

false_at : (l : List Bool) (i : ℕ) → get_or (set l i false) i false ≡ false
false_at [] i = refl
false_at (x ∷ xs) zero = refl
false_at (x ∷ xs) (suc i) = false_at xs i

pub emptied : (before after : List Bool) (t : ℕ) → after ≡ slice_set before t false
    → ((k : ℕ) → k < t → slice_index_or before k false ≡ false) → (k : ℕ) → k < t + 1
    → slice_index_or after k false ≡ false
emptied before after t e h k small = ap (λ l. get_or l k false) e ∙ dite (ℕ_discrete k t)
    (λ same. ap (get_or_at before t) same ∙ false_at before t)
    (λ ne. get_or-set_other before t k false false ne ∙ h k (omega arith))
  where
    get_or_at : List Bool → ℕ → ℕ → Bool
    get_or_at l t k = get_or (set l t false) k false

pub still_full : (before after : List Bool) (t : ℕ) → after ≡ slice_set before t false
    → ((k : ℕ) → t ≤ k → k < TURNS → slice_index_or before k false ≡ true) → (k : ℕ) → t + 1 ≤ k → k < TURNS
    → slice_index_or after k false ≡ true
still_full before after t e h k big small = ap (λ l. get_or l k false) e
    ∙ get_or-set_other before t k false false (λ same. omega arith) ∙ h k (omega arith) small

module _ {T : Type 0} where
  take_next : (l : List T) (i : ℕ) (a : T) → get_elem? l i ≡ some a → take (suc i) l ≡ take i l ++ a ∷ []
  take_next [] i a e = absurd (some-ne-none a (sym e))
  take_next (x ∷ xs) zero a e = ap (λ y. y ∷ []) (some-injective x a e)
  take_next (x ∷ xs) (suc i) a e = ap (λ l. x ∷ l) (take_next xs i a e)

  pub take_at : (l : List T) (i : ℕ) (a : T) → get_elem? l i ≡ some a → take (i + 1) l ≡ take i l ++ a ∷ []
  take_at l i a e = ap (λ n. take n l) (add-one i) ∙ take_next l i a e

  pub map_some-snoc : (ps : List T) (x : T) (all : List (Option T)) → map Some ps ≡ all
      → map Some (ps ++ x ∷ []) ≡ all ++ Some x ∷ []
  map_some-snoc ps x all e = map-append Some ps (x ∷ []) ∙ ap (λ l. l ++ Some x ∷ []) e

  pub value_at : (xs ys : List (Option T)) (k : ℕ) (o : Option T) (p : T) → get_elem? xs k ≡ some o → xs ≡ ys
      → get_elem? ys k ≡ some (Some p) → o ≡ Some p
  value_at xs ys k o p e same h = some-injective o (Some p) (sym e ∙ ap (λ l. get_elem? l k) same ∙ h)
