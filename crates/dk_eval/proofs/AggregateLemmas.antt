-- A fold over values, step by step: how many it saw, and what they add up to.
use Rattle.std.proofs.Common.{◌≡◌, ℕ, ◌+◌, ℤ, pos, ◌+ℤ◌, List, [], ◌∷◌, length, fold, map, refl, ap, ◌∙◌, arith}
use Rattle.dk_values.specs.declared.value.Value.{Value}
use Rattle.dk_values.specs.declared.value.Value.TheVariants as value
use Rattle.dk_syntax.specs.declared.query.FoldKind.{FoldKind}
use Rattle.dk_syntax.specs.declared.query.FoldKind.TheVariants.{Count, Sum}
use Rattle.dk_eval.specs.Aggregates.{Taken, nothing, take_value, result_of}
use Rattle.dk_eval.specs.AggregateLaws.{present, number_or_zero, sum_or_null, CountsArePresent, SumsAreExact}

kind_stays : (taken : Taken) (values : List Value) → (fold take_value taken values).kind ≡ taken.kind
kind_stays taken [] = refl
kind_stays taken (value.Null ∷ values) = kind_stays taken values
kind_stays taken (value.Bool truth ∷ values) = kind_stays (take_value taken (value.Bool truth)) values
kind_stays taken (value.Int n ∷ values) = kind_stays (take_value taken (value.Int n)) values
kind_stays taken (value.Big n ∷ values) = kind_stays (take_value taken (value.Big n)) values
kind_stays taken (value.Text text ∷ values) = kind_stays (take_value taken (value.Text text)) values
kind_stays taken (value.Huge n ∷ values) = kind_stays (take_value taken (value.Huge n)) values

seen_are : (taken : Taken) (values : List Value)
    → (fold take_value taken values).seen ≡ taken.seen + length (present values)
seen_are taken [] = omega arith
seen_are taken (value.Null ∷ values) = seen_are taken values
seen_are taken (value.Bool truth ∷ values) = omega (arith, seen_are (take_value taken (value.Bool truth)) values)
seen_are taken (value.Int n ∷ values) = omega (arith, seen_are (take_value taken (value.Int n)) values)
seen_are taken (value.Big n ∷ values) = omega (arith, seen_are (take_value taken (value.Big n)) values)
seen_are taken (value.Text text ∷ values) = omega (arith, seen_are (take_value taken (value.Text text)) values)
seen_are taken (value.Huge n ∷ values) = omega (arith, seen_are (take_value taken (value.Huge n)) values)

seen_from_none : (kind : FoldKind) (values : List Value)
    → (fold take_value (nothing kind) values).seen ≡ length (present values)
seen_from_none kind values = omega (arith, seen_are (nothing kind) values)

total_is : (taken : Taken) (values : List Value)
    → (fold take_value taken values).total ≡ fold ◌+ℤ◌ taken.total (map number_or_zero (present values))
total_is taken [] = refl
total_is taken (value.Null ∷ values) = total_is taken values
total_is taken (value.Bool truth ∷ values) = total_is (take_value taken (value.Bool truth)) values
total_is taken (value.Int n ∷ values) = total_is (take_value taken (value.Int n)) values
total_is taken (value.Big n ∷ values) = total_is (take_value taken (value.Big n)) values
total_is taken (value.Text text ∷ values) = total_is (take_value taken (value.Text text)) values
total_is taken (value.Huge n ∷ values) = total_is (take_value taken (value.Huge n)) values

count_is : (taken : Taken) → taken.kind ≡ Count → result_of taken ≡ value.Big (pos taken.seen)
count_is taken e = rw e refl

sum_is : (taken : Taken) → taken.kind ≡ Sum → result_of taken ≡ sum_or_null taken.seen taken.total
sum_is taken e = rw e refl

pub counts_are_present : CountsArePresent
counts_are_present values =
    count_is (fold take_value (nothing Count) values) (kind_stays (nothing Count) values)
    ∙ ap (λ (n : ℕ). value.Big (pos n)) (seen_from_none Count values)

pub sums_are_exact : SumsAreExact
sums_are_exact values =
    sum_is (fold take_value (nothing Sum) values) (kind_stays (nothing Sum) values)
    ∙ ap (λ (n : ℕ). sum_or_null n (fold take_value (nothing Sum) values).total) (seen_from_none Sum values)
    ∙ ap (sum_or_null (length (present values))) (total_is (nothing Sum) values)
