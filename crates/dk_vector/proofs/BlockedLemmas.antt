-- The walk to the first row that something stands against.
use Rattle.std.proofs.Common.{ℕ, ◌≡◌, ◌<◌, ◌+◌, List, ◌∷◌, length, drop, get_or, Option, Some, None, refl, ap, sym, ◌∙◌}
use Rattle.std.proofs.lemmas.List.{drop_more}
use Rattle.dk_vector.specs.declared.vector.Blocked.{Blocked}
use Rattle.dk_vector.specs.Vectors.{first_blocked}

abbrev blocked_or : ℕ → Option Blocked → Option ℕ → Option Blocked
blocked_or row rest None = rest
blocked_or row rest (Some stamp) = Some (record { row = row; stamp = stamp })

step : (against : ℕ → Option ℕ) (row : ℕ) (rows : List ℕ) → first_blocked against (row ∷ rows) ≡ blocked_or row (first_blocked against rows) (against row)
step against row rows = so (against row)
  where
    so : (o : Option ℕ) → (elim o as (λ x. Option Blocked) [ Some stamp ↦ Some (record { row = row; stamp = stamp }) | None ↦ first_blocked against rows ]) ≡ blocked_or row (first_blocked against rows) o
    so None = refl
    so (Some stamp) = refl

walk : (against : ℕ → Option ℕ) (i : ℕ) (rows : List ℕ) → i < length rows
    → first_blocked against (drop i rows) ≡ blocked_or (get_or rows i 0) (first_blocked against (drop (i + 1) rows)) (against (get_or rows i 0))
walk against i rows within = ap (first_blocked against) (drop_more rows i 0 within) ∙ step against (get_or rows i 0) (drop (i + 1) rows)

pub blocked_next : (against : ℕ → Option ℕ) (i : ℕ) (rows : List ℕ) → i < length rows → None ≡ against (get_or rows i 0)
    → first_blocked against (drop i rows) ≡ first_blocked against (drop (i + 1) rows)
blocked_next against i rows within none = walk against i rows within ∙ sym (ap (blocked_or (get_or rows i 0) (first_blocked against (drop (i + 1) rows))) none)

pub blocked_here : (against : ℕ → Option ℕ) (i stamp : ℕ) (rows : List ℕ) → i < length rows → Some stamp ≡ against (get_or rows i 0)
    → first_blocked against (drop i rows) ≡ Some (record { row = get_or rows i 0; stamp = stamp })
blocked_here against i stamp rows within some = walk against i rows within ∙ sym (ap (blocked_or (get_or rows i 0) (first_blocked against (drop (i + 1) rows))) some)
