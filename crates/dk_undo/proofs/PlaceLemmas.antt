-- Places that begin with the items.
use Rattle.std.proofs.Common.{◌≡◌, ℕ, zero, suc, List, [], ◌∷◌, ◌++◌, length, replicate, set, get_or, slice_get, Option, Some, None, refl, ap}
use Rattle.dk_undo.specs.Places.{somes, filled}

module _ {X : Type 0} where
  somes-none : (k : ℕ) → somes (replicate {A = Option X} k None) ≡ []
  somes-none zero = refl
  somes-none (suc k) = somes-none k

  pub somes-filled : (xs : List X) (k : ℕ) → somes (filled xs k) ≡ xs
  somes-filled [] k = somes-none k
  somes-filled (x ∷ xs) k = ap (λ l. x ∷ l) (somes-filled xs k)

  none_at : (k i : ℕ) → get_or {A = Option X} (replicate k None) i None ≡ None
  none_at zero i = refl
  none_at (suc k) zero = refl
  none_at (suc k) (suc i) = none_at k i

  pub filled_at : (xs : List X) (k i : ℕ) → get_or (filled xs k) i None ≡ slice_get xs i
  filled_at [] k i = none_at k i
  filled_at (x ∷ xs) k zero = refl
  filled_at (x ∷ xs) k (suc i) = filled_at xs k i

  -- a value goes into the first empty place
  pub filled-put : (xs : List X) (k : ℕ) (x : X)
      → set (filled xs (suc k)) (length xs) (Some x) ≡ filled (xs ++ x ∷ []) k
  filled-put [] k x = refl
  filled-put (y ∷ xs) k x = ap (λ l. Some y ∷ l) (filled-put xs k x)

  -- the last value goes
  pub filled-take : (xs : List X) (k : ℕ) (x : X) → set (filled (xs ++ x ∷ []) k) (length xs) None ≡ filled xs (suc k)
  filled-take [] k x = refl
  filled-take (y ∷ xs) k x = ap (λ l. Some y ∷ l) (filled-take xs k x)
