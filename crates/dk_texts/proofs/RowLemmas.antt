-- The values of a row, written one after another.
use Rattle.std.proofs.Common.{◌≡◌, ℕ, zero, suc, ◌+◌, List, [], ◌∷◌, ◌++◌, drop, length, Some, sym, ap, ◌∙◌, append_assoc, append-nil, length-append, arith}
use Rattle.std.specs.Prelude.{slice_get, codes}
use Rattle.dk_values.specs.declared.value.Value.{Value}
use Rattle.dk_texts.specs.Fields.{value_text}
use Rattle.dk_texts.specs.Texts.{more_values, shown}

-- the items from the i-th on begin with it
pub drop_next : {A : Type 0} (xs : List A) (i : ℕ) (x : A) → slice_get xs i ≡ Some x → drop i xs ≡ x ∷ drop (i + 1) xs
drop_next [] i x is = absurd (cc is)
drop_next (y ∷ xs) zero x is = let same : y ≡ x = cc in ap (λ z. z ∷ xs) same
drop_next (y ∷ xs) (suc i) x is =
    let next : suc i + 1 ≡ suc (i + 1) = omega arith in
    drop_next xs i x is ∙ ap (λ (k : ℕ). x ∷ drop k (y ∷ xs)) (sym next)

-- the values from the i-th on begin with it
pub next_value : (row : List Value) (i : ℕ) (v : Value) → slice_get row i ≡ Some v
    → more_values (drop i row) ≡ (codes "," ++ value_text v) ++ more_values (drop (i + 1) row)
next_value row i v is = ap more_values (drop_next row i v is)

-- a comma and the next value were put
pub value_put : (out comma put all : List ℕ) (row : List Value) (i : ℕ) (v : Value) → comma ≡ out ++ codes ","
    → put ≡ comma ++ value_text v → slice_get row i ≡ Some v
    → out ++ more_values (drop i row) ≡ all → put ++ more_values (drop (i + 1) row) ≡ all
value_put out comma put all row i v e f is so_far =
    let rest = more_values (drop (i + 1) row) in
    ap (λ xs. xs ++ rest) (f ∙ ap (λ xs. xs ++ value_text v) e)
    ∙ (append_assoc (out ++ codes ",") (value_text v) rest ∙ (append_assoc out (codes ",") (value_text v ++ rest)
    ∙ (ap (λ xs. out ++ xs) (sym (append_assoc (codes ",") (value_text v) rest) ∙ sym (next_value row i v is))
    ∙ so_far)))

-- where nothing was put, two quotes are shown
pub shown_quotes : (out values put line : List ℕ) → put ≡ out ++ values → length put ≡ length out
    → line ≡ put ++ codes "\"\"\n" → line ≡ out ++ (shown values ++ codes "\n")
shown_quotes out [] put line e same is = is ∙ ap (λ xs. xs ++ codes "\"\"\n") (e ∙ append-nil out)
shown_quotes out (b ∷ values) put line e same is =
    let longer = ap length e ∙ length-append out (b ∷ values) in
    absurd (omega (arith, longer, same))

-- where something was put, it is what is shown
pub shown_values : (out values put line : List ℕ) → put ≡ out ++ values → (length put ≡ length out → ⊥)
    → line ≡ put ++ codes "\n" → line ≡ out ++ (shown values ++ codes "\n")
shown_values out [] put line e other is = absurd (other (ap length (e ∙ append-nil out)))
shown_values out (b ∷ values) put line e other is =
    is ∙ (ap (λ xs. xs ++ codes "\n") e ∙ append_assoc out (b ∷ values) (codes "\n"))
