-- What is to be known of the numbers of a column to choose their encoding.
use Rattle.std.specs.Prelude.{◌≡◌, ℕ, ℤ, ◌+◌, ◌-◌, ◌*◌, ◌≤◌, ◌==◌, List, ◌∷◌, ◌++◌, length, map, replicate, true, Some, None, if◌then◌else◌}
use Rattle.dk_values.specs.declared.value.ColType.{ColType}
use Rattle.std.specs.Int.{w32, to_le_bytes}
use Rattle.dk_values.specs.declared.value.Value.{Value}
use Rattle.dk_columns.specs.Columns.{is_present}
use Rattle.dk_columns.specs.Stored.{IsNumeric}
use Rattle.dk_segment.specs.declared.encoding.Encoding.{Encoding}
use Rattle.dk_segment.specs.Bodies.{code_of, body_of}
use Rattle.dk_bytes.specs.Bits.{byte_count, bit_width}
use Rattle.dk_seg_body.specs.Numbers.{AllStandFor, values_for, number_len}
use Rattle.dk_seg_run.specs.NumberRuns.{runs_in}
use Rattle.dk_seg_pack.specs.Packed.{rank, least, greatest}
use Rattle.dk_segment.specs.declared.choice.Sizes.{Sizes}
use Rattle.dk_segment.specs.declared.numbers.Profile.{Profile}
use Rattle.dk_segment.specs.declared.present.TheConstants.{MAX_VALUES}

-- the numbers stand for values of the type, and a segment can hold so many
pub record AreFew (kind : ColType) (numbers : List ℤ) : Type 0 where
  pub numeric : IsNumeric kind
  pub stand : AllStandFor kind numbers
  pub few : length numbers ≤ MAX_VALUES

-- their least and greatest rank, and how many runs they have
pub record IsProfile (numbers : List ℤ) (profile : Profile) : Type 0 where
  pub least : profile.range.least ≡ least (map rank numbers)
  pub greatest : profile.range.greatest ≡ greatest (map rank numbers)
  pub runs : profile.runs ≡ runs_in numbers

-- how long the bodies of so many numbers are; texts alone have dictionaries
abbrev pub sizes_for : ColType → ℕ → Profile → Sizes
sizes_for kind count profile = record {
  constant = if profile.runs == 1 then Some (number_len kind) else None;
  run_length = if count == 0 then None else Some (4 + (number_len kind + 2) * profile.runs);
  packed = if count == 0 then None
      else Some (9 + byte_count (bit_width (profile.range.greatest - profile.range.least) * count));
  dictionary = None;
  plain = number_len kind * count;
}

-- none of the values is null
abbrev pub AreAllThere : List Value → Type 0
AreAllThere values = map is_present values ≡ replicate (length (map is_present values)) true

-- the encoding, no mask, the number of values, and their body
abbrev pub number_segment : ColType → List ℤ → Encoding → List ℕ
number_segment kind numbers encoding =
    code_of encoding ∷ 0 ∷ (to_le_bytes w32 (length numbers) ++ body_of encoding (values_for kind numbers))
