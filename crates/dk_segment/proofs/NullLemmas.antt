-- Values with nulls among them.
use Rattle.std.proofs.Common.{◌≡◌, ℕ, zero, suc, ◌+◌, ◌^◌, ◌<◌, Bool, true, false, List, [], ◌∷◌, ◌++◌, length, drop, append_assoc, refl, sym, ap, ◌∙◌, arith, cond, eqb, zero-add}
use Rattle.std.proofs.lemmas.List.{drop-drop}
use Rattle.std.proofs.lemmas.List.Sums.{sum_by-cons}
use Rattle.std.specs.List.{AllByRecursion, list_all, list_any}
use Rattle.dk_values.specs.declared.value.ColType.{ColType}
use Rattle.dk_values.specs.declared.value.ColType.TheVariants as types
use Rattle.dk_values.specs.declared.value.Value.{Value}
use Rattle.dk_values.specs.declared.value.Value.TheVariants as cell
use Rattle.dk_bytes.specs.PlainValue.{IsPlain}
use Rattle.dk_bytes.specs.RowFields.{IsCell}
use Rattle.dk_segment.specs.Segment.{flags_of, ones, with_nulls, cell_if, step_of}
use Rattle.dk_bytes.specs.PlainValue.{is_present, present}

-- ---- what a list with nulls is made of

pub all_present : (values : List Value) → list_all is_present values ≡ true → present values ≡ values
all_present [] e = refl
all_present (cell.Null ∷ vs) e = absurd cc
all_present (v ∷ vs) e = ap (λ (l : List Value). v ∷ l) (all_present vs e)

pub null_flag : (values : List Value) → list_all is_present values ≡ false → list_any (λ flag. eqb flag 0) (flags_of values) ≡ true
null_flag [] e = absurd cc
null_flag (cell.Null ∷ vs) e = refl
null_flag (v ∷ vs) e = null_flag vs e

pub flag_null : (values : List Value) → list_any (λ flag. eqb flag 0) (flags_of values) ≡ true → list_all is_present values ≡ false
flag_null [] e = absurd cc
flag_null (cell.Null ∷ vs) e = refl
flag_null (v ∷ vs) e = flag_null vs e

-- one flag more
ones_zero : (flags : List ℕ) → ones (0 ∷ flags) ≡ ones flags
ones_zero flags =
    let step : ones (0 ∷ flags) ≡ 0 + ones flags = sum_by-cons (λ flag. cond (eqb flag 1) 1 0) 0 flags in
    step ∙ zero-add (ones flags)

ones_one : (flags : List ℕ) → ones (1 ∷ flags) ≡ suc (ones flags)
ones_one flags =
    let step : ones (1 ∷ flags) ≡ 1 + ones flags = sum_by-cons (λ flag. cond (eqb flag 1) 1 0) 1 flags in
    let more : 1 + ones flags ≡ suc (ones flags) = omega arith in
    step ∙ more

pub ones_flags : (values : List Value) → ones (flags_of values) ≡ length (present values)
ones_flags [] = refl
ones_flags (cell.Null ∷ vs) = ones_zero (flags_of vs) ∙ ones_flags vs
ones_flags (v ∷ vs) = ones_one (flags_of vs) ∙ ap suc (ones_flags vs)

pub present_flag : (values : List Value) → 0 < length (present values) → list_any (λ flag. eqb flag 1) (flags_of values) ≡ true
present_flag [] h = absurd (omega arith)
present_flag (cell.Null ∷ vs) h = present_flag vs h
present_flag (v ∷ vs) h = refl

pub flags_fit : (values : List Value) → AllByRecursion (λ flag. flag < 2 ^ 1) (flags_of values)
flags_fit [] = tt
flags_fit (cell.Null ∷ vs) = (omega arith, flags_fit vs)
flags_fit (v ∷ vs) = (omega arith, flags_fit vs)

pub placed_again : (values : List Value) → with_nulls (flags_of values) (present values) ≡ values
placed_again [] = refl
placed_again (cell.Null ∷ vs) = ap (λ (l : List Value). cell.Null ∷ l) (placed_again vs)
placed_again (v ∷ vs) = ap (λ (l : List Value). v ∷ l) (placed_again vs)

pub length-flags : (values : List Value) → length (flags_of values) ≡ length values
length-flags [] = refl
length-flags (v ∷ vs) = ap suc (length-flags vs)

-- ---- what is made of flags and values

pub plain_present : (kind : ColType) (value : Value) → IsPlain kind value → is_present value ≡ true
plain_present types.Bool cell.Null h = absurd h
plain_present types.Int cell.Null h = absurd h
plain_present types.Big cell.Null h = absurd h
plain_present types.Text cell.Null h = absurd h
plain_present kind value h = refl

pub plain_all_present : (kind : ColType) (values : List Value) → AllByRecursion (IsPlain kind) values → list_all is_present values ≡ true
plain_all_present kind [] h = refl
plain_all_present kind (v ∷ vs) h = rw (plain_present kind v h.0) (plain_all_present kind vs h.1)

-- the flags and the present values of a list
pub record IsMadeOf (flags : List ℕ) (values : List Value) (all : List Value) : Type 0 where
  pub flags_told : flags_of all ≡ flags
  pub present_told : present all ≡ values

abbrev null_first : List Value → List Value
null_first l = cell.Null ∷ l

made_null : (flags : List ℕ) (values all : List Value) → IsMadeOf flags values all → IsMadeOf (0 ∷ flags) values (cell.Null ∷ all)
made_null flags values all m = record { flags_told = ap (λ (l : List ℕ). 0 ∷ l) m.flags_told; present_told = m.present_told }

made_value : (flags : List ℕ) (value : Value) (values all : List Value) → is_present value ≡ true → IsMadeOf flags values all → IsMadeOf (1 ∷ flags) (value ∷ values) (value ∷ all)
made_value flags value values all p m = record {
  flags_told = rw p (ap (λ (l : List ℕ). 1 ∷ l) m.flags_told);
  present_told = rw p (ap (λ (l : List Value). value ∷ l) m.present_told);
}

pub made_of : (kind : ColType) (flags : List ℕ) (values : List Value) → AllByRecursion (λ flag. flag < 2 ^ 1) flags → AllByRecursion (IsPlain kind) values → ones flags ≡ length values → IsMadeOf flags values (with_nulls flags values)
made_of kind [] [] f p e = record { flags_told = refl; present_told = refl }
made_of kind [] (v ∷ vs) f p e = absurd (omega arith)
made_of kind (zero ∷ flags) values f p e = made_null flags values (with_nulls flags values) (made_of kind flags values f.1 p (sym (ones_zero flags) ∙ e))
made_of kind (suc zero ∷ flags) [] f p e = let none : suc (ones flags) ≡ 0 = sym (ones_one flags) ∙ e in absurd (omega arith)
made_of kind (suc zero ∷ flags) (v ∷ vs) f p e = made_value flags v vs (with_nulls flags vs) (plain_present kind v p.0) (made_of kind flags vs f.1 p.1 (let more : suc (ones flags) ≡ suc (length vs) = sym (ones_one flags) ∙ e in omega arith))
made_of kind (suc (suc n) ∷ flags) values f p e = absurd (omega (arith, f.0))

pub cells_plain : (kind : ColType) (values : List Value) → AllByRecursion (IsCell kind) values → AllByRecursion (IsPlain kind) (present values)
cells_plain kind [] h = tt
cells_plain kind (cell.Null ∷ vs) h = cells_plain kind vs h.1
cells_plain kind (v ∷ vs) h = (h.0, cells_plain kind vs h.1)

-- one value more at its place
with_one : (flag : ℕ) (flags : List ℕ) (values : List Value) → with_nulls (flag ∷ flags) values ≡ cell_if flag values ∷ with_nulls flags (drop (step_of flag) values)
with_one flag flags [] = by_test (eqb flag 1) refl
  where
    by_test : (b : Bool) → eqb flag 1 ≡ b → with_nulls (flag ∷ flags) [] ≡ cell.Null ∷ with_nulls flags (drop (step_of flag) [])
    by_test true e = rw e refl
    by_test false e = rw e refl
with_one flag flags (v ∷ vs) = by_test (eqb flag 1) refl
  where
    by_test : (b : Bool) → eqb flag 1 ≡ b → with_nulls (flag ∷ flags) (v ∷ vs) ≡ cell_if flag (v ∷ vs) ∷ with_nulls flags (drop (step_of flag) (v ∷ vs))
    by_test true e = rw e refl
    by_test false e = rw e refl

pub put_one : (flag at at' : ℕ) (rest : List ℕ) (values front front' all : List Value) (value : Value) → front ++ with_nulls (flag ∷ rest) (drop at values) ≡ all → value ≡ cell_if flag (drop at values) → front' ≡ front ++ value ∷ [] → at' ≡ at + step_of flag → front' ++ with_nulls rest (drop at' values) ≡ all
put_one flag at at' rest values front front' all value h e more step =
    rw (more, step, e, ← drop-drop (step_of flag) at values)
    (append_assoc front (cell_if flag (drop at values) ∷ []) (with_nulls rest (drop (step_of flag) (drop at values)))
    ∙ ap (λ (l : List Value). front ++ l) (sym (with_one flag rest (drop at values))) ∙ h)
