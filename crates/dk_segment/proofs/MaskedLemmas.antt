-- The flags of a column's values, and the numbers of those that are present.
use Rattle.std.proofs.Common.{◌≡◌, ℕ, ℤ, ◌+◌, ◌<◌, ◌≤◌, ◌^◌, Bool, true, false, List, [], ◌∷◌, ◌++◌, length, map, take, drop, get_or, Some, append_assoc, append-nil, eqb, refl, ap, sym, subst, ◌∙◌, arith}
use Rattle.std.specs.Prelude.{slice_get}
use Rattle.std.specs.List.{AllByRecursion, list_all, list_any}
use Rattle.std.specs.Int.{w32, to_le_bytes}
use Rattle.std.proofs.lemmas.List.{map-append, drop_more, drop_all}
use Rattle.std.proofs.lemmas.List.Elements.{All-from_recursion}
use Rattle.dk_values.specs.declared.value.ColType.{ColType}
use Rattle.dk_values.specs.declared.value.Value.{Value}
use Rattle.dk_values.specs.declared.value.Value.TheVariants as cell
use Rattle.dk_rows.proofs.RowLemmas.{take_more}
use Rattle.dk_bytes.specs.PlainValue.{bit_byte, is_present, present}
use Rattle.dk_bytes.specs.RowFields.{IsCell}
use Rattle.dk_columns.specs.Columns as columns
use Rattle.dk_columns.specs.Stored.{IsNumeric}
use Rattle.dk_seg_body.specs.Numbers.{values_for}
use Rattle.dk_segment.specs.declared.encoding.Encoding.{Encoding}
use Rattle.dk_bytes.specs.Bits.{packed}
use Rattle.dk_segment.specs.Bodies.{code_of, body_of}
use Rattle.dk_segment.specs.Choice.{IsBest}
use Rattle.dk_segment.specs.Segment.{IsColumn, IsSegment, flags_of, mask_flag, mask_bytes}
use Rattle.dk_segment.specs.Profile.{AreFew, AreAllThere}
use Rattle.dk_segment.specs.Masked.{number_if, flagged, AreFlags, flags_bytes, masked_segment}
use Rattle.dk_segment.proofs.NullLemmas.{null_flag, flags_fit, length-flags}
use Rattle.dk_segment.proofs.ColumnNumberLemmas.{all_there, length-numbers}

-- ---- loops

pub one_flag : (all : List Bool) (i : ℕ) (set : Bool) (flag : ℕ) (flags flags' : List ℕ) → slice_get all i ≡ Some set → flag ≡ bit_byte set → flags ≡ map bit_byte (take i all) → flags' ≡ flags ++ flag ∷ [] → flags' ≡ map bit_byte (take (i + 1) all)
one_flag all i set flag flags flags' at e told more =
    more ∙ ap (λ (l : List ℕ). l ++ flag ∷ []) told ∙ ap (λ (n : ℕ). map bit_byte (take i all) ++ n ∷ []) e
    ∙ sym (ap (map bit_byte) (take_more all i set at) ∙ map-append bit_byte (take i all) (set ∷ []))

pub one_number : (flags : List ℕ) (numbers : List ℤ) (i d : ℕ) (e : ℤ) (found found' all : List ℤ) → i < length flags → i < length numbers → found' ≡ found ++ number_if (get_or flags i d) (get_or numbers i e) → found ++ flagged (drop i flags) (drop i numbers) ≡ all → found' ++ flagged (drop (i + 1) flags) (drop (i + 1) numbers) ≡ all
one_number flags numbers i d e found found' all h k more told =
    rw more (append_assoc found (number_if (get_or flags i d) (get_or numbers i e)) (flagged (drop (i + 1) flags) (drop (i + 1) numbers)))
    ∙ ap (λ (l : List ℤ). found ++ l) (sym (ap (λ (fs : List ℕ). flagged fs (drop i numbers)) (drop_more flags i d h) ∙ ap (λ (ns : List ℤ). flagged (get_or flags i d ∷ drop (i + 1) flags) ns) (drop_more numbers i e k)))
    ∙ told

pub no_number : (flags : List ℕ) (numbers : List ℤ) (i : ℕ) (found all : List ℤ) → length flags ≤ i → found ++ flagged (drop i flags) (drop i numbers) ≡ all → found ≡ all
no_number flags numbers i found all h told =
    sym (append-nil found) ∙ ap (λ (fs : List ℕ). found ++ flagged fs (drop i numbers)) (sym (drop_all i flags h)) ∙ told

-- ---- values

flags_are : (values : List Value) → map bit_byte (map columns.is_present values) ≡ flags_of values
flags_are [] = refl
flags_are (cell.Null ∷ vs) = ap (λ (l : List ℕ). 0 ∷ l) (flags_are vs)
flags_are (v ∷ vs) = ap (λ (l : List ℕ). 1 ∷ l) (flags_are vs)

numbers_are : (values : List Value) → flagged (flags_of values) (map columns.number_of values) ≡ map columns.number_of (present values)
numbers_are [] = refl
numbers_are (cell.Null ∷ vs) = numbers_are vs
numbers_are (v ∷ vs) = ap (λ (l : List ℤ). columns.number_of v ∷ l) (numbers_are vs)

present_cells : (kind : ColType) (values : List Value) → AllByRecursion (IsCell kind) values → AllByRecursion (IsCell kind) (present values)
present_cells kind [] h = tt
present_cells kind (cell.Null ∷ vs) h = present_cells kind vs h.1
present_cells kind (v ∷ vs) h = (h.0, present_cells kind vs h.1)

present_there : (values : List Value) → AreAllThere (present values)
present_there [] = refl
present_there (cell.Null ∷ vs) = present_there vs
present_there (v ∷ vs) = ap (λ (l : List Bool). true ∷ l) (present_there vs)

present_few : (values : List Value) → length (present values) ≤ length values
present_few [] = omega arith
present_few (cell.Null ∷ vs) = let ih = present_few vs in omega (arith, ih)
present_few (v ∷ vs) = let ih = present_few vs in omega (arith, ih)

no_null : (values : List Value) → list_all is_present values ≡ true → list_any (λ flag. eqb flag 0) (flags_of values) ≡ false
no_null [] e = refl
no_null (cell.Null ∷ vs) e = absurd cc
no_null (v ∷ vs) e = no_null vs e

-- what the flags say is what a segment says of nulls
spelled_flags : (values : List Value) (body : List ℕ) → flags_bytes (flags_of values) ++ body ≡ mask_flag values ∷ (to_le_bytes w32 (length values) ++ (mask_bytes values ++ body))
spelled_flags values body = by_test (list_all is_present values) refl
  where
    by_test : (b : Bool) → list_all is_present values ≡ b → flags_bytes (flags_of values) ++ body ≡ mask_flag values ∷ (to_le_bytes w32 (length values) ++ (mask_bytes values ++ body))
    by_test true e = rw (e, no_null values e, length-flags values) (ap (λ (l : List ℕ). 0 ∷ l) (append_assoc (to_le_bytes w32 (length values)) [] body))
    by_test false e = rw (e, null_flag values e)
        (ap (λ (n : ℕ). 1 ∷ ((to_le_bytes w32 n ++ packed 1 (flags_of values)) ++ body)) (length-flags values)
        ∙ ap (λ (l : List ℕ). 1 ∷ l) (append_assoc (to_le_bytes w32 (length values)) (packed 1 (flags_of values)) body))

module _ (kind : ColType) (values : List Value) (flags : List ℕ) (words : List ℤ) (set : List Bool) (column : IsColumn kind values) (numeric : IsNumeric kind)
    (words_told : words ≡ map columns.number_of values) (set_told : set ≡ map columns.is_present values) (flags_told : flags ≡ map bit_byte set) where
  flags_same : flags ≡ flags_of values
  flags_same = flags_told ∙ ap (map bit_byte) set_told ∙ flags_are values

  pub same_length : length flags ≡ length words
  same_length = ap length flags_same ∙ length-flags values ∙ sym (ap length words_told ∙ length-numbers values)

  pub are_flags : AreFlags flags
  are_flags = rw flags_same (record {
    few = rw (length-flags values) column.few;
    fit = All-from_recursion (λ flag. flag < 2 ^ 1) (flags_of values) (flags_fit values);
  })

  module _ (numbers : List ℤ) (found : numbers ≡ flagged flags words) where
    numbers_same : numbers ≡ map columns.number_of (present values)
    numbers_same = found ∙ ap (λ (fs : List ℕ). flagged fs words) flags_same ∙ ap (flagged (flags_of values)) words_told ∙ numbers_are values

    pub are_few : AreFew kind numbers
    are_few = rw numbers_same (record {
      numeric = numeric;
      stand = (all_there kind (present values) numeric (present_cells kind values column.cells) (present_there values)).stand;
      few = omega (arith, length-numbers (present values), present_few values, column.few);
    })

    -- their segment is the column's
    pub segment_is : (bytes : List ℕ) → ((encoding : Encoding) × IsBest kind (values_for kind numbers) encoding × (bytes ≡ masked_segment kind flags numbers encoding))
        → (encoding : Encoding) × IsBest kind (present values) encoding × IsSegment kind encoding values bytes
    segment_is bytes (encoding, best, spelled) =
        let all = all_there kind (present values) numeric (present_cells kind values column.cells) (present_there values) in
        let same : values_for kind numbers ≡ present values = ap (values_for kind) numbers_same ∙ all.again in
        let chosen : IsBest kind (present values) encoding = subst (λ (vs : List Value). IsBest kind vs encoding) same best in (
          encoding,
          chosen,
          record {
            some = column.some;
            few = column.few;
            holds = chosen.holds;
            spelled = spelled ∙ rw (flags_same, same) (ap (λ (l : List ℕ). code_of encoding ∷ l) (spelled_flags values (body_of encoding (present values))));
          },
        )
