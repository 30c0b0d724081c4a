-- Insert stamps of the rows from a place on.
use Rattle.std.proofs.Common.{ℕ, zero, suc, ◌≡◌, ◌<◌, ◌≤◌, List, [], ◌∷◌, map, length, get_or, set, refl, ap, ◌∙◌, arith}
use Rattle.std.proofs.lemmas.List.{length-map}
use Rattle.dk_version.specs.declared.stamps.Stamp.{Stamp}
use Rattle.dk_version.specs.Rows.{reinserted, reinserted_from}

-- from behind the last row on nothing changes
pub from_past : (start from to : ℕ) (rows : List Stamp) → length rows ≤ start → rows ≡ reinserted_from start from to rows
from_past zero from to [] past = refl
from_past zero from to (stamp ∷ rows) past = absurd (omega (arith, past))
from_past (suc start) from to [] past = refl
from_past (suc start) from to (stamp ∷ rows) past = ap (λ l. stamp ∷ l) (from_past start from to rows (omega (arith, past)))

-- one row before the place
pub from_next : (start from to : ℕ) (rows : List Stamp) (now : List Stamp) (stamp : Stamp) → start < length rows
    → now ≡ reinserted_from (suc start) from to rows → stamp ≡ get_or now start stamp
    → set now start (reinserted from to stamp) ≡ reinserted_from start from to rows
from_next start from to [] now stamp within e is = absurd (omega (arith, within))
from_next zero from to (first ∷ rows) now stamp within e is =
    ap (λ l. set l 0 (reinserted from to stamp)) e
    ∙ ap (λ s. reinserted from to s ∷ map (reinserted from to) rows) (is ∙ ap (λ l. get_or l 0 stamp) e)
from_next (suc start) from to (first ∷ rows) now stamp within e is =
    ap (λ l. set l (suc start) (reinserted from to stamp)) e
    ∙ ap (λ l. first ∷ l) (from_next start from to rows (reinserted_from (suc start) from to rows) stamp (omega (arith, within)) refl (is ∙ ap (λ l. get_or l (suc start) stamp) e))

pub length_from : (start from to : ℕ) (rows : List Stamp) → length (reinserted_from start from to rows) ≡ length rows
length_from zero from to rows = length-map rows (reinserted from to)
length_from (suc start) from to [] = refl
length_from (suc start) from to (stamp ∷ rows) = ap suc (length_from start from to rows)
