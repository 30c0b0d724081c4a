-- Items that are read one behind the other, with those that were read before.
use Rattle.std.proofs.Common.{◌≡◌, ℕ, List, [], ◌∷◌, ◌++◌, Result, Ok, Err, refl, ap, append_assoc, append-nil}
use Rattle.dk_bytes.specs.Fields.{Place}
use Rattle.dk_bytes.specs.Reading.{◌>>=◌}
use Rattle.dk_bytes.proofs.NumberLemmas.{done}

module _ {A : Type 0} where
  -- the items before those that are read
  abbrev pub with_front : List A → Result (List A × Place) ℕ → Result (List A × Place) ℕ
  with_front front reading = reading >>= λ x. Ok (front ++ x.0, x.1)

  -- at the start no item was read
  pub none_yet : (reading : Result (List A × Place) ℕ) → with_front [] reading ≡ reading
  none_yet (Ok x) = refl
  none_yet (Err at) = refl

  -- at the end no item is left
  pub no_more : (front : List A) (place : Place) → with_front front (done ([], place)) ≡ Ok (front, place)
  no_more front place = ap (λ (l : List A). done (l, place)) (append-nil front)

  -- one more item is read
  pub front_snoc : (front : List A) (item : A) (reading : Result (List A × Place) ℕ) → with_front (front ++ item ∷ []) reading ≡ with_front front (reading >>= λ others. Ok (item ∷ others.0, others.1))
  front_snoc front item (Ok x) = ap (λ (l : List A). done (l, x.1)) (append_assoc front (item ∷ []) x.0)
  front_snoc front item (Err at) = refl
