-- What `==` answers at values and rows: whether they are the same.
use Rattle.std.specs.Prelude.{◌≡◌, Bool, true, false, List, bytes_eq}
use Rattle.std.specs.Ordering.{int_eq}
use Rattle.std.specs.Bool.{Decides, one_answer}
use Rattle.std.specs.Cmp.{IsPartialEquivalence}
use Rattle.std.specs.Cmp.Lexicographic.{lists_per}
use Rattle.std.proofs.Common.{refl, sym, ap, ◌∙◌}
use Rattle.std.proofs.lemmas.Bool.Decides.{Decides-int_eq}
use Rattle.std.proofs.lemmas.Slice.Eq.{bytes_eq-Decides, slice_eq-Decides}
use lib.Pointwise.{pointwise}
use Rattle.dk_values.specs.declared.value.Value.{Value}
use Rattle.dk_values.specs.declared.value.Value.TheVariants as values

abbrev pub truth_eq : Bool → Bool → Bool
truth_eq true b = b
truth_eq false true = false
truth_eq false false = true

abbrev pub value_eq : Value → Value → Bool
value_eq values.Null values.Null = true
value_eq (values.Bool a) (values.Bool b) = truth_eq a b
value_eq (values.Int a) (values.Int b) = int_eq a b
value_eq (values.Big a) (values.Big b) = int_eq a b
value_eq (values.Text a) (values.Text b) = bytes_eq a b
value_eq (values.Huge a) (values.Huge b) = int_eq a b
value_eq v w = false

abbrev pub row_eq : List Value → List Value → Bool
row_eq = pointwise value_eq

abbrev pub rows_eq : List (List Value) → List (List Value) → Bool
rows_eq = pointwise row_eq

truth_decides : (a b : Bool) → Decides (truth_eq a b) (a ≡ b)
truth_decides true b = (λ e. sym e, λ e. sym e)
truth_decides false true = (λ e. absurd cc, λ e. absurd cc)
truth_decides false false = (λ e. refl, λ e. refl)

pub value_decides : (v w : Value) → Decides (value_eq v w) (v ≡ w)
value_decides values.Null values.Null = (λ e. refl, λ e. refl)
value_decides (values.Bool a) (values.Bool b) = (λ e. ap values.Bool ((truth_decides a b).0 e), λ e. (truth_decides a b).1 cc)
value_decides (values.Int a) (values.Int b) = (λ e. ap values.Int ((Decides-int_eq a b).0 e), λ e. (Decides-int_eq a b).1 cc)
value_decides (values.Big a) (values.Big b) = (λ e. ap values.Big ((Decides-int_eq a b).0 e), λ e. (Decides-int_eq a b).1 cc)
value_decides (values.Text a) (values.Text b) = (λ e. ap values.Text ((bytes_eq-Decides a b).0 e), λ e. (bytes_eq-Decides a b).1 cc)
value_decides (values.Huge a) (values.Huge b) = (λ e. ap values.Huge ((Decides-int_eq a b).0 e), λ e. (Decides-int_eq a b).1 cc)
value_decides v w = (λ e. absurd cc, λ e. absurd cc)

pub rows_decide : (xs ys : List (List Value)) → Decides (rows_eq xs ys) (xs ≡ ys)
rows_decide xs ys = slice_eq-Decides (λ row other. slice_eq-Decides value_decides row other (row_eq row other) refl) xs ys (rows_eq xs ys) refl

value_symm : (v w : Value) → value_eq v w ≡ value_eq w v
value_symm v w =
    let there = value_decides v w in
    let back = value_decides w v in
    one_answer (value_eq v w) (value_eq w v) there (λ e. sym (back.0 e), λ e. back.1 (sym e))

value_trans : (u v w : Value) → value_eq u v ≡ true → value_eq v w ≡ true → value_eq u w ≡ true
value_trans u v w e f = (value_decides u w).1 ((value_decides u v).0 e ∙ (value_decides v w).0 f)

pub rows_per : IsPartialEquivalence rows_eq
rows_per = lists_per (lists_per (record { symm = value_symm; trans = value_trans }))
