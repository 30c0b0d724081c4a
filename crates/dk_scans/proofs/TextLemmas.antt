-- The best text of more and more rows.
use Rattle.std.proofs.Common.{◌≡◌, ℕ, cond, ◌+◌, ◌<◌, Bool, true, false, List, [], ◌∷◌, ◌++◌, map, length, take, Option, Some, None, refl, ap, sym, ◌∙◌, arith}
use Rattle.std.specs.Prelude.{slice_get}
use Rattle.std.specs.List.{filter, best_of}
use Rattle.std.proofs.lemmas.List.{append-nil, map-append}
use Rattle.std.proofs.lemmas.List.Elements.{filter-append}
use Rattle.std.proofs.lemmas.List.Sums.{fold-append}
use Rattle.dk_values.specs.declared.value.Value.{Value}
use Rattle.dk_values.specs.declared.value.Value.TheVariants as values
use Rattle.dk_values.specs.declared.value.ColType.TheVariants as types
use Rattle.dk_columns.specs.Columns.{IsOfKind, is_present}
use Rattle.dk_scans.specs.Extremes.{extreme_of, better}
use Rattle.dk_scans.specs.Selection.{select, texts, text_of, text_if}
use Rattle.dk_scans.proofs.SelectionLemmas.{select_next}

abbrev pub listed : Option (List ℕ) → List (List ℕ)
listed None = []
listed (Some text) = text ∷ []

one_text : (b : Bool) (v : Value) → (b ≡ true → IsOfKind types.Text v) → map text_of (filter is_present (select (b ∷ []) (v ∷ []))) ≡ listed (text_if b v)
one_text false v h = refl
one_text true values.Null h = refl
one_text true (values.Bool x) h = absurd (h refl)
one_text true (values.Int x) h = absurd (h refl)
one_text true (values.Big x) h = absurd (h refl)
one_text true (values.Text x) h = refl
one_text true (values.Huge x) h = absurd (h refl)

-- the texts of one row more
pub texts_more : (rows : List Bool) (all : List Value) (i : ℕ) (b : Bool) (v : Value) → slice_get rows i ≡ Some b → slice_get all i ≡ Some v → (b ≡ true → IsOfKind types.Text v) → i < length rows → length rows ≡ length all
    → texts (take (i + 1) rows) (take (i + 1) all) ≡ texts (take i rows) (take i all) ++ listed (text_if b v)
texts_more rows all i b v at_row at_value kind within len =
    ap (λ (vs : List Value). map text_of (filter is_present vs)) (select_next rows all i b v at_row at_value (omega (arith, within, len)) len)
    ∙ ap (map text_of) (filter-append is_present (select (take i rows) (take i all)) (select (b ∷ []) (v ∷ [])))
    ∙ map-append text_of (filter is_present (select (take i rows) (take i all))) (filter is_present (select (b ∷ []) (v ∷ [])))
    ∙ ap (λ (xs : List (List ℕ)). texts (take i rows) (take i all) ++ xs) (one_text b v kind)

pub better_more : (goes_before : List ℕ → List ℕ → Bool) (xs : List (List ℕ)) (x : Option (List ℕ)) → better goes_before (extreme_of goes_before xs) x ≡ extreme_of goes_before (xs ++ listed x)
better_more goes_before [] None = refl
better_more goes_before [] (Some y) = refl
better_more goes_before (x ∷ xs) None = ap (λ (ys : List (List ℕ)). Some (best_of goes_before x ys)) (sym (append-nil xs))
better_more goes_before (x ∷ xs) (Some y) = ap (λ (z : List ℕ). Some z) (sym (fold-append (λ b z. cond (goes_before z b) z b) x xs (y ∷ [])))
