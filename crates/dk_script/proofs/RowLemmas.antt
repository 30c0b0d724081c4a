-- Rows that are written one after another.
use Rattle.std.proofs.Common.{◌≡◌, ℕ, ◌+◌, List, ◌++◌, drop, Some, Result, Ok, Err, OnErr, sym, ap, ◌∙◌, append_assoc}
use Rattle.std.specs.Prelude.{slice_get}
use Rattle.dk_values.specs.declared.value.Value.{Value}
use Rattle.dk_texts.specs.Texts.{row_text, rows_text}
use Rattle.dk_texts.proofs.RowLemmas.{drop_next}

-- the rows from the i-th on begin with it
pub next_row : (rows : List (List Value)) (i : ℕ) (row : List Value) → slice_get rows i ≡ Some row
    → rows_text (drop i rows) ≡ row_text row ++ rows_text (drop (i + 1) rows)
next_row rows i row is = ap rows_text (drop_next rows i row is)

-- the next row was put
pub row_put : (out put all : List ℕ) (rows : List (List Value)) (i : ℕ) (row : List Value) → put ≡ out ++ row_text row
    → slice_get rows i ≡ Some row
    → out ++ rows_text (drop i rows) ≡ all → put ++ rows_text (drop (i + 1) rows) ≡ all
row_put out put all rows i row e is so_far =
    ap (λ xs. xs ++ rows_text (drop (i + 1) rows)) e
    ∙ (append_assoc out (row_text row) (rows_text (drop (i + 1) rows))
    ∙ (ap (λ xs. out ++ xs) (sym (next_row rows i row is)) ∙ so_far))

-- a fact for an error, whatever was returned
pub on_err_from : {T E P : Type 0} (r : Result T E) → P → OnErr r P
on_err_from (Ok v) p = tt
on_err_from (Err e) p = p
