-- The sizes of the bodies of numbers that stand for values.
use Rattle.std.proofs.Common.{◌≡◌, ◌⊎◌, inl, inr, ◌↔◌, ℕ, ℤ, pos, suc, ◌+◌, ◌-◌, ◌*◌, ◌<◌, ◌≤◌, ◌==◌, Bool, true, false, List, [], ◌∷◌, length, map, None, refl, ap, sym, subst, ◌∙◌, arith}
use Rattle.std.specs.List.{AllByRecursion, flat_map}
use Rattle.std.specs.Ordering.{int_eq}
use Rattle.std.proofs.lemmas.List.{length-append}
use Rattle.std.proofs.Math.Nat.{mul-suc}
use Rattle.dk_values.specs.declared.value.ColType.{ColType}
use Rattle.dk_values.specs.declared.value.ColType.TheVariants as types
use Rattle.dk_values.specs.declared.value.Value.{Value}
use Rattle.dk_bytes.specs.PlainValue.{IsPlain, plain_bytes, same}
use Rattle.dk_bytes.proofs.SameLemmas.{same_true, same_self}
use Rattle.dk_bytes.specs.Bits.{byte_count, bit_width}
use Rattle.std.specs.Int.{w16, w32, to_le_bytes}
use Rattle.std.proofs.lemmas.Bool.{eq-eqb, eqb-true, cases_lt}
use Rattle.dk_columns.specs.Stored.{IsNumeric}
use Rattle.dk_seg_pack.specs.Packed.{rank, rank_of, packed_bytes, IsNumeric as IsNumericToo}
use Rattle.dk_seg_pack.proofs.BodyLemmas.{packed_len}
use Rattle.dk_seg_text.specs.Plain.{plain_body}
use Rattle.dk_segment.specs.declared.numbers.Profile.{Profile}
use Rattle.dk_segment.specs.declared.encoding.Encoding.TheVariants.{Constant, RunLength, Packed, Dictionary}
use Rattle.dk_segment.specs.Choice.{IsSize, AreSizes}
use Rattle.dk_segment.specs.Profile.{AreFew, IsProfile, sizes_for}
use Rattle.dk_seg_body.specs.Numbers.{StandsFor, AllStandFor, value_for, values_for, number_len}
use Rattle.dk_seg_body.proofs.NumberLemmas.{plain_len_is, plain_body_len}
use Rattle.dk_seg_run.specs.declared.run_length.Run.{Run}
use Rattle.dk_seg_run.specs.Constant.{IsConstant, constant_bytes}
use Rattle.dk_seg_run.specs.RunLength.{IsRun, HasRuns, runs_of, with_value, run_bytes, run_length_bytes}
use Rattle.dk_seg_run.specs.NumberRuns.{run_count, runs_in}
use Rattle.dk_seg_run.proofs.NumberRunLemmas.{same_numbers, runs_counted}

pub length-values : (kind : ColType) (ns : List ℤ) → length (values_for kind ns) ≡ length ns
length-values kind [] = refl
length-values kind (n ∷ ns) = ap suc (length-values kind ns)

value_plain : (kind : ColType) (n : ℤ) → StandsFor kind n → IsPlain kind (value_for kind n)
value_plain types.Bool n h = tt
value_plain types.Int n h = h
value_plain types.Big n h = h
value_plain types.Text n h = absurd h

-- the values are of the type
pub values_plain : (kind : ColType) (ns : List ℤ) → AllStandFor kind ns → AllByRecursion (IsPlain kind) (values_for kind ns)
values_plain kind [] h = tt
values_plain kind (n ∷ ns) h = (value_plain kind n h.0, values_plain kind ns h.1)

never : false ≡ true → ⊥
never e = cc

pub len_small : (kind : ColType) → number_len kind ≤ 8
len_small types.Bool = omega arith
len_small types.Int = omega arith
len_small types.Big = omega arith
len_small types.Text = omega arith

few_bytes : (kind : ColType) (n : ℕ) → n ≤ 2048 → number_len kind * n ≤ 16384
few_bytes types.Bool n h = omega (arith, h)
few_bytes types.Int n h = omega (arith, h)
few_bytes types.Big n h = omega (arith, h)
few_bytes types.Text n h = omega (arith, h)

numeric_kind : (kind : ColType) → IsNumeric kind → IsNumericToo kind
numeric_kind types.Bool h = tt
numeric_kind types.Int h = tt
numeric_kind types.Big h = tt
numeric_kind types.Text h = absurd h

no_text : (kind : ColType) → IsNumeric kind → kind ≡ types.Text → ⊥
no_text kind h e = subst (λ (k : ColType). IsNumeric k) e h

truth_rank : (n : ℤ) → (n ≡ pos 0) ⊎ (n ≡ pos 1) → rank_of (value_for types.Bool n) ≡ rank n
truth_rank n (inl e) = rw e refl
truth_rank n (inr e) = rw e refl

rank_is : (kind : ColType) (n : ℤ) → StandsFor kind n → rank_of (value_for kind n) ≡ rank n
rank_is types.Bool n h = truth_rank n h
rank_is types.Int n h = refl
rank_is types.Big n h = refl
rank_is types.Text n h = absurd h

-- the values have the ranks of their numbers
pub ranks_are : (kind : ColType) (ns : List ℤ) → AllStandFor kind ns → map rank_of (values_for kind ns) ≡ map rank ns
ranks_are kind [] h = refl
ranks_are kind (n ∷ ns) h = rw (rank_is kind n h.0, ranks_are kind ns h.1) refl

-- ---- one value

some_run : (n : ℤ) (ns : List ℤ) → 1 ≤ run_count n ns
some_run n [] = omega arith
some_run n (m ∷ ms) = omega (arith, some_run m ms)

abbrev AllOne : ColType → ℤ → List ℤ → Type 0
AllOne kind n ns = AllByRecursion (λ (other : Value). other ≡ value_for kind n) (values_for kind ns)

one_run : (kind : ColType) (n : ℤ) (ns : List ℤ) → AllStandFor kind (n ∷ ns) → (run_count n ns ≡ 1) ↔ AllOne kind n ns
one_run kind n [] all = (λ e. tt, λ h. refl)
one_run kind n (m ∷ ms) all = by_test (int_eq n m) refl (one_run kind m ms all.1)
  where
    by_test : (b : Bool) → int_eq n m ≡ b → (run_count m ms ≡ 1) ↔ AllOne kind m ms → (run_count n (m ∷ ms) ≡ 1) ↔ AllOne kind n (m ∷ ms)
    by_test true e ih =
        let one : value_for kind n ≡ value_for kind m = same_true _ _ (same_numbers kind n m all.0 all.1.0 ∙ e) in (
          λ c. (sym one, subst (λ (v : Value). AllByRecursion (λ (other : Value). other ≡ v) (values_for kind ms)) (sym one) (ih.0 (omega (arith, rw e at c)))),
          λ h. rw e (omega (arith, ih.1 (subst (λ (v : Value). AllByRecursion (λ (other : Value). other ≡ v) (values_for kind ms)) one h.1))),
        )
    by_test false e ih = (
      λ c. absurd (omega (arith, rw e at c, some_run m ms)),
      λ h. absurd (let no : false ≡ true = sym (same_numbers kind n m all.0 all.1.0 ∙ e) ∙ ap (λ (v : Value). same (value_for kind n) v) h.0 ∙ same_self (value_for kind n) in cc),
    )

constant_held : (kind : ColType) (ns : List ℤ) → AllStandFor kind ns → (runs_in ns ≡ 1) ↔ IsConstant kind (values_for kind ns)
constant_held kind [] all = (λ e. absurd (omega arith), λ h. absurd h)
constant_held kind (n ∷ ns) all = (λ e. (value_plain kind n all.0, (one_run kind n ns all).0 e), λ h. (one_run kind n ns all).1 h.1)

constant_len : (kind : ColType) (ns : List ℤ) → IsNumeric kind → AllStandFor kind ns → runs_in ns ≡ 1 → number_len kind ≡ length (constant_bytes (values_for kind ns))
constant_len kind [] numeric all e = absurd (omega arith)
constant_len kind (n ∷ ns) numeric all e = sym (plain_len_is kind (value_for kind n) numeric (value_plain kind n all.0))

-- ---- runs

-- a run of a value of the type, of at most so many
record Fits (kind : ColType) (most : ℕ) (run : Run) : Type 0 where
  plain : IsPlain kind run.value
  some : 0 < run.count
  few : run.count ≤ most

more_fit : (kind : ColType) (k : ℕ) (runs : List Run) → AllByRecursion (Fits kind k) runs → AllByRecursion (Fits kind (suc k)) runs
more_fit kind k [] h = tt
more_fit kind k (run ∷ runs) h = (record { plain = h.0.plain; some = h.0.some; few = omega (arith, h.0.few) }, more_fit kind k runs h.1)

with_fits : (kind : ColType) (k : ℕ) (v : Value) (runs : List Run) → IsPlain kind v → AllByRecursion (Fits kind k) runs → AllByRecursion (Fits kind (suc k)) (with_value v runs)
with_fits kind k v [] p h = (record { plain = p; some = omega arith; few = omega arith }, tt)
with_fits kind k v (run ∷ runs) p h = by_test (same v run.value) refl
  where
    by_test : (b : Bool) → same v run.value ≡ b → AllByRecursion (Fits kind (suc k)) (with_value v (run ∷ runs))
    by_test true e = rw e (record { plain = h.0.plain; some = omega arith; few = omega (arith, h.0.few) }, more_fit kind k runs h.1)
    by_test false e = rw e (record { plain = p; some = omega arith; few = omega arith }, (record { plain = h.0.plain; some = h.0.some; few = omega (arith, h.0.few) }, more_fit kind k runs h.1))

runs_fit : (kind : ColType) (vs : List Value) → AllByRecursion (IsPlain kind) vs → AllByRecursion (Fits kind (length vs)) (runs_of vs)
runs_fit kind [] h = tt
runs_fit kind (v ∷ vs) h = with_fits kind (length vs) v (runs_of vs) h.0 (runs_fit kind vs h.1)

are_runs : (kind : ColType) (k : ℕ) (runs : List Run) → k ≤ 2048 → AllByRecursion (Fits kind k) runs → AllByRecursion (IsRun kind) runs
are_runs kind k [] few h = tt
are_runs kind k (run ∷ runs) few h = (record { plain = h.0.plain; some = h.0.some; fits = omega (arith, h.0.few, few) }, are_runs kind k runs few h.1)

few_behind : (n : ℤ) (ns : List ℤ) → run_count n ns ≤ suc (length ns)
few_behind n [] = omega arith
few_behind n (m ∷ ms) = by_test (int_eq n m) refl (few_behind m ms)
  where
    by_test : (b : Bool) → int_eq n m ≡ b → run_count m ms ≤ suc (length ms) → run_count n (m ∷ ms) ≤ suc (length (m ∷ ms))
    by_test true e h = rw e (omega (arith, h))
    by_test false e h = rw e (omega (arith, h))

pub few_runs : (ns : List ℤ) → runs_in ns ≤ length ns
few_runs [] = omega arith
few_runs (n ∷ ns) = few_behind n ns

run_bytes_len : (kind : ColType) (runs : List Run) → IsNumeric kind → AllByRecursion (IsRun kind) runs → length (flat_map run_bytes runs) ≡ (number_len kind + 2) * length runs
run_bytes_len kind [] numeric h = omega arith
run_bytes_len kind (run ∷ runs) numeric h =
    let one : length (run_bytes run) ≡ number_len kind + 2 = length-append (plain_bytes run.value) (to_le_bytes w16 run.count) ∙ ap (λ (k : ℕ). k + 2) (plain_len_is kind run.value numeric h.0.plain) in
    let ih = run_bytes_len kind runs numeric h.1 in
    let all : length (flat_map run_bytes (run ∷ runs)) ≡ length (run_bytes run) + length (flat_map run_bytes runs) = length-append (run_bytes run) (flat_map run_bytes runs) in
    all ∙ ap (λ (k : ℕ). k + length (flat_map run_bytes runs)) one ∙ ap (λ (k : ℕ). number_len kind + 2 + k) ih ∙ times (number_len kind + 2) (length runs)
  where
    times : (a b : ℕ) → a + a * b ≡ a * suc b
    times a b = omega (arith, mul-suc a b)

module _ (kind : ColType) (ns : List ℤ) (profile : Profile) (few : AreFew kind ns) (is : IsProfile ns profile) where
  abbrev vs : List Value
  vs = values_for kind ns

  len_is : length vs ≡ length ns
  len_is = length-values kind ns

  plain : AllByRecursion (IsPlain kind) vs
  plain = values_plain kind ns few.stand

  some_values : (length ns == 0) ≡ false → 0 < length vs
  some_values e = elim (cases_lt 0 (length vs)) [ inl lt ↦ lt | inr le ↦ absurd (let zero_is : (length ns == 0) ≡ true = eq-eqb _ _ (omega (arith, le, len_is)) in cc) ]

  no_values : (length ns == 0) ≡ true → 0 < length vs → ⊥
  no_values e lt = omega (arith, eqb-true _ _ e, lt, len_is)

  constant_is : IsSize Constant kind vs (sizes_for kind (length ns) profile).constant
  constant_is = by_test (profile.runs == 1) refl
    where
      by_test : (b : Bool) → (profile.runs == 1) ≡ b → IsSize Constant kind vs (sizes_for kind (length ns) profile).constant
      by_test true e =
          let one : runs_in ns ≡ 1 = sym is.runs ∙ eqb-true _ _ e in
          rw e (record { held = (λ _. (constant_held kind ns few.stand).0 one, λ _. refl); length = constant_len kind ns few.numeric few.stand one })
      by_test false e =
          rw e (record { held = (λ no. absurd (never no), λ h. absurd (never (sym e ∙ eq-eqb _ _ (is.runs ∙ (constant_held kind ns few.stand).1 h)))); length = tt })

  counted : length (runs_of vs) ≡ profile.runs
  counted = runs_counted kind ns few.stand ∙ sym is.runs

  all_runs : AllByRecursion (IsRun kind) (runs_of vs)
  all_runs = are_runs kind (length vs) (runs_of vs) (omega (arith, len_is, few.few)) (runs_fit kind vs plain)

  has_runs : 0 < length vs → HasRuns kind vs
  has_runs some = record { some = some; runs = all_runs; count = omega (arith, counted, is.runs, few_runs ns, few.few) }

  runs_len : 4 + (number_len kind + 2) * profile.runs ≡ length (run_length_bytes vs)
  runs_len = sym (length-append (to_le_bytes w32 (length (runs_of vs))) (flat_map run_bytes (runs_of vs)) ∙ ap (λ (k : ℕ). 4 + k) (run_bytes_len kind (runs_of vs) few.numeric all_runs ∙ ap (λ (k : ℕ). (number_len kind + 2) * k) counted))

  run_length_is : IsSize RunLength kind vs (sizes_for kind (length ns) profile).run_length
  run_length_is = by_test (length ns == 0) refl
    where
      by_test : (b : Bool) → (length ns == 0) ≡ b → IsSize RunLength kind vs (sizes_for kind (length ns) profile).run_length
      by_test true e = rw e (record { held = (λ no. absurd (never no), λ h. absurd (no_values e h.some)); length = tt })
      by_test false e = rw e (record { held = (λ _. has_runs (some_values e), λ _. refl); length = runs_len })

  packed_len_is : 9 + byte_count (bit_width (profile.range.greatest - profile.range.least) * length ns) ≡ length (packed_bytes vs)
  packed_len_is = sym (packed_len vs ∙ rw (ranks_are kind ns few.stand, len_is, ← is.least, ← is.greatest) refl)

  packed_is : IsSize Packed kind vs (sizes_for kind (length ns) profile).packed
  packed_is = by_test (length ns == 0) refl
    where
      by_test : (b : Bool) → (length ns == 0) ≡ b → IsSize Packed kind vs (sizes_for kind (length ns) profile).packed
      by_test true e = rw e (record { held = (λ no. absurd (never no), λ h. absurd (no_values e h.some)); length = tt })
      by_test false e = rw e (record { held = (λ _. record { numeric = numeric_kind kind few.numeric; some = some_values e; plain = plain }, λ _. refl); length = packed_len_is })

  dictionary_is : IsSize Dictionary kind vs None
  dictionary_is = record { held = (λ no. absurd (never no), λ h. absurd (no_text kind few.numeric h.text)); length = tt }

  pub number_sizes_are : AreSizes kind vs (sizes_for kind (length ns) profile)
  number_sizes_are =
      let told : number_len kind * length ns ≡ length (plain_body vs) = sym (plain_body_len kind vs few.numeric plain ∙ ap (λ (k : ℕ). number_len kind * k) len_is) in
      record {
        constant = constant_is;
        run_length = run_length_is;
        packed = packed_is;
        dictionary = dictionary_is;
        plain_holds = record { plain = plain; room = omega (arith, told, few_bytes kind (length ns) few.few) };
        plain = told;
      }
