-- A field, and what the `csv` library's default writer writes of it.
use Rattle.std.proofs.Common.{◌≡◌, ◌==◌, ℕ, Bool, true, false, List, [], ◌∷◌, ◌++◌, refl, sym, ap, ◌∙◌}
use Rattle.std.specs.Prelude.{◌||◌, if◌then◌else◌}
use Rattle.std.proofs.lemmas.Bool.{eqb-true}
use Rattle.csv.specs.Writing.{default_writer, escaped, needs_quotes}
use Rattle.csv.specs.Quoting.{needs_byte}
use Rattle.dk_texts.specs.Fields.{is_mark, wants_quotes, doubled}
use Rattle.dk_texts.specs.Laws.{FieldsAreThoseOfCsv}

same_marks : (a b c d : Bool) → (a || b || c || d) ≡ (a || b || (c || d) || false || false)
same_marks true b c d = refl
same_marks false true c d = refl
same_marks false false true d = refl
same_marks false false false true = refl
same_marks false false false false = refl

pub mark_is : (b : ℕ) → is_mark b ≡ needs_byte default_writer b
mark_is b = same_marks (b == 44) (b == 34) (b == 13) (b == 10)

pub quotes_are : (bytes : List ℕ) → wants_quotes bytes ≡ needs_quotes default_writer bytes
quotes_are [] = refl
quotes_are (b ∷ bytes) = rw (mark_is b, quotes_are bytes) refl

doubled_by : (b : ℕ) (t : Bool) (xs ys : List ℕ) → (b == 34) ≡ t → xs ≡ ys
    → (if t then 34 ∷ 34 ∷ [] else b ∷ []) ++ xs ≡ (if t then 34 ∷ b ∷ ys else b ∷ ys)
doubled_by b true xs ys is e =
    let quote = eqb-true b 34 is in
    ap (λ zs. 34 ∷ 34 ∷ zs) e ∙ ap (λ c. 34 ∷ c ∷ ys) (sym quote)
doubled_by b false xs ys is e = ap (λ zs. b ∷ zs) e

pub doubled_is : (bytes : List ℕ) → doubled bytes ≡ escaped default_writer bytes
unfolding escaped
doubled_is [] = refl
doubled_is (b ∷ bytes) = doubled_by b (b == 34) (doubled bytes) (escaped default_writer bytes) refl (doubled_is bytes)

pub fields_are : FieldsAreThoseOfCsv
fields_are bytes = rw (quotes_are bytes, doubled_is bytes) refl
