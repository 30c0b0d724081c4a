-- Rows in a group that is there, and in one behind the others.
use Rattle.std.proofs.Common.{◌≡◌, ℕ, ◌+◌, ◌<◌, ◌≤◌, List, [], ◌∷◌, ◌++◌, length, slice_set, ap, refl, arith}
use Rattle.std.specs.Prelude.{zero, suc}
use Rattle.dk_core.specs.Layout.{rows_in, with_rows}

pub rows_there : (groups : List ℕ) (group more : ℕ) → group < length groups
    → slice_set groups group (rows_in groups group + more) ≡ with_rows group more groups
rows_there [] group more within = absurd (omega (arith, within))
rows_there (x ∷ groups) zero more within = refl
rows_there (x ∷ groups) (suc group) more within =
    ap (λ rest. x ∷ rest) (rows_there groups group more (omega (arith, within)))

pub rows_behind : (groups : List ℕ) (group more : ℕ) → length groups ≤ group
    → groups ++ more ∷ [] ≡ with_rows group more groups
rows_behind [] zero more past = refl
rows_behind [] (suc group) more past = refl
rows_behind (x ∷ groups) zero more past = absurd (omega (arith, past))
rows_behind (x ∷ groups) (suc group) more past =
    ap (λ rest. x ∷ rest) (rows_behind groups group more (omega (arith, past)))
