-- Parts of a statement that are bound one after another.
use Rattle.std.specs.Prelude.{ℕ, ◌+◌, List, [], ◌∷◌, ◌++◌, Result, Ok, Err}
use Rattle.dk_bind.specs.Outcomes.{Outcome, ◌>>=◌}

-- each part by its place among them, from a place on
abbrev pub bound_from : {A B : Type 0} → (ℕ → A → Outcome B) → ℕ → List A → Outcome (List B)
bound_from bind place [] = Ok []
bound_from bind place (part ∷ parts) =
    bind place part >>= λ first. bound_from bind (place + 1) parts >>= λ others. Ok (first ∷ others)

-- what is bound, behind what was bound before
abbrev pub with_front : {B : Type 0} → List B → Outcome (List B) → Outcome (List B)
with_front front (Ok bound) = Ok (front ++ bound)
with_front front (Err refusal) = Err refusal
