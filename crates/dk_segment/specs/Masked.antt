-- Numbers with nulls among them.
use Rattle.std.specs.Prelude.{ℕ, ℤ, ◌≤◌, ◌<◌, ◌^◌, ◌==◌, List, [], ◌∷◌, ◌++◌, length, if◌then◌else◌}
use Rattle.std.specs.List.{All, list_any}
use Rattle.std.specs.Int.{w32, to_le_bytes}
use Rattle.dk_values.specs.declared.value.ColType.{ColType}
use Rattle.dk_bytes.specs.Bits.{packed}
use Rattle.dk_seg_body.specs.Numbers.{values_for}
use Rattle.dk_segment.specs.declared.encoding.Encoding.{Encoding}
use Rattle.dk_segment.specs.declared.present.TheConstants.{MAX_VALUES}
use Rattle.dk_segment.specs.Bodies.{code_of, body_of}

-- the number whose flag is 1
abbrev pub number_if : ℕ → ℤ → List ℤ
number_if flag number = if flag == 1 then number ∷ [] else []

-- the numbers whose flag is 1
abbrev pub flagged : List ℕ → List ℤ → List ℤ
flagged [] numbers = []
flagged (flag ∷ flags) [] = []
flagged (flag ∷ flags) (number ∷ numbers) = number_if flag number ++ flagged flags numbers

-- as many flags as a segment can have values, each 0 or 1
pub record AreFlags (flags : List ℕ) : Type 0 where
  pub few : length flags ≤ MAX_VALUES
  pub fit : All (λ flag. flag < 2 ^ 1) flags

-- whether a mask follows, the number of flags, and the mask where one is 0
abbrev pub flags_bytes : List ℕ → List ℕ
flags_bytes flags =
    (if list_any (λ flag. flag == 0) flags then 1 else 0)
    ∷ (to_le_bytes w32 (length flags) ++ (if list_any (λ flag. flag == 0) flags then packed 1 flags else []))

-- the encoding, what the flags say, and the body of the values that the numbers stand for
abbrev pub masked_segment : ColType → List ℕ → List ℤ → Encoding → List ℕ
masked_segment kind flags numbers encoding =
    code_of encoding ∷ (flags_bytes flags ++ body_of encoding (values_for kind numbers))
