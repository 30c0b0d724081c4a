-- What aggregates come to, in one line each.
use Rattle.std.specs.Prelude.{◌≡◌, ℕ, ◌==◌, ℤ, pos, ◌+ℤ◌, Bool, not, List, fold, length, map, unwrap_or, if◌then◌else◌}
use Rattle.std.specs.List.{filter}
use Rattle.dk_values.specs.declared.value.Value.{Value}
use Rattle.dk_values.specs.declared.value.Value.TheVariants as value
use Rattle.dk_syntax.specs.declared.query.FoldKind.TheVariants.{Count, Sum}
use Rattle.dk_eval.specs.Values.{is_null, number_of}
use Rattle.dk_eval.specs.Aggregates.{aggregate}

-- the values that are not null
abbrev pub present : List Value → List Value
present values = filter (λ v. not (is_null v)) values

abbrev pub number_or_zero : Value → ℤ
number_or_zero v = unwrap_or (number_of v) (pos 0)

-- so many numbers with that sum; null where there are none
abbrev pub sum_or_null : ℕ → ℤ → Value
sum_or_null count total = if count == 0 then value.Null else value.Huge total

abbrev pub CountsArePresent : Type 0
CountsArePresent = (values : List Value) → aggregate Count values ≡ value.Big (pos (length (present values)))

abbrev pub SumsAreExact : Type 0
SumsAreExact = (values : List Value) → aggregate Sum values
    ≡ sum_or_null (length (present values)) (fold ◌+ℤ◌ (pos 0) (map number_or_zero (present values)))
