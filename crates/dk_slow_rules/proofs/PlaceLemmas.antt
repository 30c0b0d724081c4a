-- A row's place behind groups is what is left of it when their rows are taken away; and the group that has room.
use Rattle.std.proofs.Common.{◌≡◌, ℕ, zero, suc, ◌+◌, ◌*◌, ◌-◌, ◌<◌, ◌≤◌, Bool, true, false, List, [], ◌∷◌, Option, Some, None, take, drop, length, ap, ◌∙◌, sym, subst, refl, arith}
use Rattle.std.proofs.lemmas.Bool.Decides.{nat_tests}
use Rattle.std.specs.Prelude.{◌&&◌, ◌==◌, nat_le, nat_lt, sum, if◌then◌else◌}
use Rattle.std.proofs.Math.ListN.{drop_of_length-le}
use Rattle.dk_types.specs.declared.vector.VectorId.{VectorId}
use Rattle.dk_si.specs.declared.limits.TheConstants.{GROUP_ROWS}
use Rattle.dk_core.specs.Layout.{first_row, rows_in, next_group, is_in_vector}
use Rattle.dk_slow_rules.proofs.ListLemmas.{sum_more}
use Rattle.dk_slow_rules.specs.Rows.{place_behind, is_zero, next_from}

-- ---- a row's place

abbrev Stands : ℕ → ℕ → Option ℕ → Type 0
Stands before row None = row < before
Stands before row (Some place) = row ≡ before + place

stands_none : (row rows rest : ℕ) → nat_lt row rows ≡ true → row < rows + rest
stands_none row rows rest less = grind (arith, nat_tests, less)

stands_more : (row rows rest : ℕ) (found : Option ℕ) → nat_lt row rows ≡ false → Stands rest (row - rows) found
    → Stands (rows + rest) row found
stands_more row rows rest None less is = grind (arith, nat_tests, less, is)
stands_more row rows rest (Some place) less is = grind (arith, nat_tests, less, is)

stands_if : (row rows rest : ℕ) (less : Bool) (found : Option ℕ) → nat_lt row rows ≡ less
    → Stands rest (row - rows) found
    → Stands (rows + rest) row (if less then None else found)
stands_if row rows rest true found is more = stands_none row rows rest is
stands_if row rows rest false found is more = stands_more row rows rest found is more

pub stands : (groups : List ℕ) (row : ℕ) → Stands (sum groups) row (place_behind groups row)
stands [] row = grind arith
stands (rows ∷ groups) row =
    subst (λ before. Stands before row (place_behind (rows ∷ groups) row)) (sym (sum_more rows groups))
    (stands_if row rows (sum groups) (nat_lt row rows) (place_behind groups (row - rows)) refl
    (stands groups (row - rows)))

zero_if : (before row : ℕ) (found : Option ℕ) → Stands before row found → is_zero found ≡ (row == before)
zero_if before row None is = grind (arith, nat_tests, is)
zero_if before row (Some place) is = grind (arith, nat_tests, is)

pub first_behind : (groups : List ℕ) (row : ℕ) → is_zero (place_behind groups row) ≡ (row == sum groups)
first_behind groups row = zero_if (sum groups) row (place_behind groups row) (stands groups row)

-- ---- the rows of a vector

add_both : (rows a b c : ℕ) → a ≡ b + c → rows + a ≡ (rows + b) + c
add_both rows a b c is = grind (arith, is)

sum_next : (groups : List ℕ) (group : ℕ) → sum (take (suc group) groups) ≡ sum (take group groups) + rows_in groups group
sum_next [] zero = refl
sum_next [] (suc group) = refl
sum_next (rows ∷ groups) zero = omega arith
sum_next (rows ∷ groups) (suc group) =
    sum_more rows (take (suc group) groups)
    ∙ (add_both rows _ _ _ (sum_next groups group)
    ∙ ap (λ n. n + rows_in groups group) (sym (sum_more rows (take group groups))))

three : (a b c x y z : Bool) → a ≡ x → b ≡ y → c ≡ z → (a && (b && c)) ≡ (x && (y && z))
three a b c x y z one two more = cc

le_at : (before x place row : ℕ) → row ≡ before + place → nat_le x place ≡ nat_le (before + x) row
le_at before x place row is = grind (arith, nat_tests, is)

lt_at : (before x place row : ℕ) → row ≡ before + place → nat_lt place x ≡ nat_lt row (before + x)
lt_at before x place row is = grind (arith, nat_tests, is)

before_none : (before x row : ℕ) → row < before → nat_le (before + x) row ≡ false
before_none before x row less = grind (arith, nat_tests, less)

vector_of : (before vector rows behind row : ℕ) (found : Option ℕ) → behind ≡ before + rows → Stands before row found
    → elim found as (λ x. Bool) [
      | None ↦ false
      | Some place ↦ nat_le (vector * 2048) place && (nat_lt place ((vector + 1) * 2048) && nat_lt place rows)
    ]
    ≡ (nat_le (before + vector * 2048) row && (nat_lt row (before + (vector + 1) * 2048) && nat_lt row behind))
vector_of before vector rows behind row None is before_is =
    let less : nat_le (before + vector * 2048) row ≡ false = before_none before (vector * 2048) row before_is in
    ap (λ b. b && (nat_lt row (before + (vector + 1) * 2048) && nat_lt row behind)) (sym less)
vector_of before vector rows behind row (Some place) is row_is =
    three _ _ _ _ _ _ (le_at before (vector * 2048) place row row_is) (lt_at before ((vector + 1) * 2048) place row row_is)
    (lt_at before rows place row row_is ∙ ap (λ n. nat_lt row n) (sym is))

vector_is : (groups : List ℕ) (at : VectorId) (row : ℕ) (found : Option ℕ)
    → found ≡ place_behind (take at.group groups) row
    → elim found as (λ x. Bool) [
      | None ↦ false
      | Some place ↦ nat_le (at.vector * 2048) place
          && (nat_lt place ((at.vector + 1) * 2048) && nat_lt place (rows_in groups at.group))
    ]
    ≡ is_in_vector groups at row
vector_is groups at row found is =
    let next : at.group + 1 ≡ suc at.group = omega arith in
    vector_of (first_row groups at.group) at.vector (rows_in groups at.group) (first_row groups (at.group + 1)) row found
    (ap (λ n. sum (take n groups)) next ∙ sum_next groups at.group)
    (subst (λ f. Stands (first_row groups at.group) row f) (sym is) (stands (take at.group groups) row))

pub no_place : (groups : List ℕ) (at : VectorId) (row : ℕ) → None ≡ place_behind (take at.group groups) row
    → false ≡ is_in_vector groups at row
no_place groups at row is = vector_is groups at row None is

pub vector_place : (groups : List ℕ) (at : VectorId) (row place : ℕ)
    → Some place ≡ place_behind (take at.group groups) row
    → (nat_le (at.vector * 2048) place
    && (nat_lt place ((at.vector + 1) * 2048) && nat_lt place (rows_in groups at.group)))
    ≡ is_in_vector groups at row
vector_place groups at row place is = vector_is groups at row (Some place) is

-- ---- the group that has room

next_one : (before : ℕ) (has_room : Bool)
    → (if has_room then before else before + 1) ≡ before + (if has_room then 0 else 1)
next_one before true = omega arith
next_one before false = refl

next_more : (before next rows : ℕ) (groups : List ℕ)
    → next_from before next (rows ∷ groups) ≡ before + next_group (rows ∷ groups)
next_more before next rows [] = next_one before (nat_lt rows GROUP_ROWS)
next_more before next rows (more ∷ groups) =
    next_more (before + 1) (if nat_lt rows GROUP_ROWS then before else before + 1) more groups
    ∙ omega arith

next_all : (groups : List ℕ) → next_from 0 0 groups ≡ next_group groups
next_all [] = refl
next_all (rows ∷ groups) = next_more 0 0 rows groups ∙ omega arith

pub next_end : (next index : ℕ) (groups : List ℕ) → length groups ≤ index
    → next_from index next (drop index groups) ≡ next_from 0 0 groups
    → next ≡ next_group groups
next_end next index groups end same =
    sym (ap (next_from index next) (drop_of_length-le groups end)) ∙ (same ∙ next_all groups)
