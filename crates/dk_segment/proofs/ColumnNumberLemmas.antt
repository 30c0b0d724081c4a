-- The numbers of a column without nulls stand for its values.
use Rattle.std.proofs.Common.{◌≡◌, inl, inr, ℕ, ℤ, suc, true, false, List, [], ◌∷◌, length, map, refl, ap, subst, ◌∙◌}
use Rattle.std.specs.List.{AllByRecursion, list_all}
use Rattle.dk_values.specs.declared.value.ColType.{ColType}
use Rattle.dk_values.specs.declared.value.ColType.TheVariants as types
use Rattle.dk_values.specs.declared.value.Value.{Value}
use Rattle.dk_values.specs.declared.value.Value.TheVariants as cell
use Rattle.dk_bytes.specs.PlainValue.{is_present, present}
use Rattle.dk_bytes.specs.RowFields.{IsCell}
use Rattle.dk_columns.specs.Columns as columns
use Rattle.dk_columns.specs.Stored.{IsNumeric}
use Rattle.dk_seg_body.specs.Numbers.{StandsFor, AllStandFor, value_for, values_for}
use Rattle.dk_segment.specs.declared.encoding.Encoding.{Encoding}
use Rattle.dk_segment.specs.Choice.{IsBest}
use Rattle.dk_segment.specs.Segment.{IsColumn, IsSegment}
use Rattle.dk_segment.specs.Profile.{AreFew, AreAllThere, number_segment}
use Rattle.dk_segment.proofs.NullLemmas.{all_present}

-- a value that is there is that of its number
record IsThere (kind : ColType) (value : Value) : Type 0 where
  stands : StandsFor kind (columns.number_of value)
  again : value_for kind (columns.number_of value) ≡ value
  there : is_present value ≡ true

one_there : (kind : ColType) (value : Value) → IsNumeric kind → IsCell kind value → columns.is_present value ≡ true → IsThere kind value
one_there types.Bool (cell.Bool true) n h e = record { stands = inr refl; again = refl; there = refl }
one_there types.Bool (cell.Bool false) n h e = record { stands = inl refl; again = refl; there = refl }
one_there types.Int (cell.Int m) n h e = record { stands = h; again = refl; there = refl }
one_there types.Big (cell.Big m) n h e = record { stands = h; again = refl; there = refl }
one_there types.Text value n h e = absurd n
one_there kind cell.Null n h e = absurd cc
one_there kind value n h e = absurd h

pub record AreThere (kind : ColType) (values : List Value) : Type 0 where
  pub stand : AllStandFor kind (map columns.number_of values)
  pub again : values_for kind (map columns.number_of values) ≡ values
  pub there : list_all is_present values ≡ true

pub all_there : (kind : ColType) (values : List Value) → IsNumeric kind → AllByRecursion (IsCell kind) values → AreAllThere values → AreThere kind values
all_there kind [] n h e = record { stand = tt; again = refl; there = refl }
all_there kind (v ∷ vs) n h e =
    let first : columns.is_present v ≡ true = cc in
    let rest : AreAllThere vs = cc in
    let one = one_there kind v n h.0 first in
    let all = all_there kind vs n h.1 rest in
    record {
      stand = (one.stands, all.stand);
      again = ap (λ (u : Value). u ∷ values_for kind (map columns.number_of vs)) one.again ∙ ap (λ (l : List Value). v ∷ l) all.again;
      there = rw one.there all.there;
    }

pub length-numbers : (values : List Value) → length (map columns.number_of values) ≡ length values
length-numbers [] = refl
length-numbers (v ∷ vs) = ap suc (length-numbers vs)

module _ (kind : ColType) (values : List Value) (numbers : List ℤ) (column : IsColumn kind values) (numeric : IsNumeric kind)
    (told : numbers ≡ map columns.number_of values) (whole : AreAllThere values) where
  pub are_few : AreFew kind numbers
  are_few = record {
    numeric = numeric;
    stand = rw told (all_there kind values numeric column.cells whole).stand;
    few = rw (told, length-numbers values) column.few;
  }

  -- their segment is the column's
  pub segment_is : (bytes : List ℕ) → ((encoding : Encoding) × IsBest kind (values_for kind numbers) encoding × (bytes ≡ number_segment kind numbers encoding))
      → (encoding : Encoding) × IsBest kind (present values) encoding × IsSegment kind encoding values bytes
  segment_is bytes (encoding, best, spelled) =
      let all = all_there kind values numeric column.cells whole in
      let same : values_for kind numbers ≡ values = ap (values_for kind) told ∙ all.again in
      let kept : present values ≡ values = all_present values all.there in
      let count : length numbers ≡ length values = ap length told ∙ length-numbers values in
      let chosen : IsBest kind (present values) encoding = rw kept (subst (λ (vs : List Value). IsBest kind vs encoding) same best) in (
        encoding,
        chosen,
        record {
          some = column.some;
          few = column.few;
          holds = chosen.holds;
          spelled = rw (all.there, kept) (spelled ∙ rw (same, count) refl);
        },
      )
