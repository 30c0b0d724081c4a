-- Copies of a value at the end of a list.
use Rattle.std.proofs.Common.{◌≡◌, ℕ, ◌+◌, List, [], ◌∷◌, ◌++◌, ap, ◌∙◌, append_assoc, replicate}
use Rattle.std.proofs.lemmas.List.{replicate-append-replicate}

pub one_more : {A : Type 0} (front : List A) (n : ℕ) (x : A) → (front ++ replicate n x) ++ (x ∷ []) ≡ front ++ replicate (n + 1) x
one_more front n x = append_assoc front (replicate n x) (x ∷ []) ∙ ap (λ l. front ++ l) (replicate-append-replicate n 1 x)
