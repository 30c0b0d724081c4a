-- Members of a list, read one after another.
use Rattle.std.proofs.Common.{◌≡◌, ℕ, zero, suc, ◌<◌, ◌-◌, List, [], ◌∷◌, ◌++◌, Some, None, Ok, Err, refl, sym, ap, ◌∙◌, append_assoc, arith}
use Rattle.std.proofs.lemmas.List.{append-nil}
use Rattle.dk_sql.specs.Readers.{Outcome, Reader, ◌>>=◌, with_front}
use Rattle.dk_sql.specs.Tokens.{mark_after, bytes_left}
use Rattle.dk_sql.specs.Lists.{more_at, more_after, last_after}

front_front : {A : Type 0} (front : List A) (x : A) (found : Outcome (List A × List ℕ))
    → with_front front (found >>= λ others. Ok (x ∷ others.0, others.1)) ≡ with_front (front ++ x ∷ []) found
front_front front x (Err left) = refl
front_front front x (Ok found) = ap (λ xs. Ok (xs, found.1)) (sym (append_assoc front (x ∷ []) found.0))

-- a member that was read
turned : {A : Type 0} (item : Reader A) (front : List A) (text rest next : List ℕ) (x : A)
    (all : Outcome (List A × List ℕ)) (left : ℕ) → mark_after 44 text ≡ Some rest → item rest ≡ Ok (x, next)
    → with_front front (more_at item (suc left) text) ≡ all
    → with_front (front ++ x ∷ []) (more_at item left next) ≡ all
turned item front text rest next x all left mark read reads =
    sym (front_front front x (more_at item left next))
    ∙ (sym (ap (λ found. with_front front (more_after item (more_at item left) text found)) mark
    ∙ ap (λ found. with_front front
    (found >>= λ first. more_at item left first.1 >>= λ more. Ok (first.0 ∷ more.0, more.1))) read) ∙ reads)

counted : {A : Type 0} (item : Reader A) (front : List A) (text : List ℕ) (all : Outcome (List A × List ℕ))
    (left : ℕ) → 0 < left → with_front front (more_at item left text) ≡ all
    → with_front front (more_at item (suc (left - 1)) text) ≡ all
counted item front text all left some reads =
    let same : suc (left - 1) ≡ left = omega arith in
    ap (λ n. with_front front (more_at item n text)) same ∙ reads

pub more_turn : {A : Type 0} (item : Reader A) (front : List A) (text rest next : List ℕ) (x : A)
    (all : Outcome (List A × List ℕ)) (left : ℕ) → mark_after 44 text ≡ Some rest → item rest ≡ Ok (x, next)
    → 0 < left → with_front front (more_at item left text) ≡ all
    → with_front (front ++ x ∷ []) (more_at item (left - 1) next) ≡ all
more_turn item front text rest next x all left mark read some reads =
    turned item front text rest next x all (left - 1) mark read (counted item front text all left some reads)

-- no comma stands next
pub more_end : {A : Type 0} (item : Reader A) (front : List A) (text : List ℕ) (all : Outcome (List A × List ℕ))
    (left : ℕ) → mark_after 44 text ≡ None → with_front front (more_at item left text) ≡ all → all ≡ Ok (front, text)
more_end item front text all zero mark reads =
    sym reads ∙ (ap (λ found. with_front front (last_after text found)) mark
    ∙ ap (λ xs. Ok (xs, text)) (append-nil front))
more_end item front text all (suc left) mark reads =
    sym reads ∙ (ap (λ found. with_front front (more_after item (more_at item left) text found)) mark
    ∙ ap (λ xs. Ok (xs, text)) (append-nil front))

-- a member too many
pub more_full : {A : Type 0} (item : Reader A) (front : List A) (text rest : List ℕ) (all : Outcome (List A × List ℕ))
    (left : ℕ) → mark_after 44 text ≡ Some rest → left ≡ 0 → with_front front (more_at item left text) ≡ all
    → all ≡ Err (bytes_left rest)
more_full item front text rest all left mark none reads =
    sym reads ∙ (ap (λ n. with_front front (more_at item n text)) none
    ∙ ap (λ found. with_front front (last_after text found)) mark)

-- no member behind a comma
pub more_fault : {A : Type 0} (item : Reader A) (front : List A) (text rest : List ℕ) (at : ℕ)
    (all : Outcome (List A × List ℕ)) (left : ℕ) → mark_after 44 text ≡ Some rest → item rest ≡ Err at → 0 < left
    → with_front front (more_at item left text) ≡ all → all ≡ Err at
more_fault item front text rest at all left mark read some reads =
    sym (counted item front text all left some reads)
    ∙ (ap (λ found. with_front front (more_after item (more_at item (left - 1)) text found)) mark
    ∙ ap (λ found. with_front front
    (found >>= λ first. more_at item (left - 1) first.1 >>= λ more. Ok (first.0 ∷ more.0, more.1))) read)
