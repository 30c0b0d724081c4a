-- Byte strings that are used up, and fields that pass a test.
use Rattle.std.specs.Prelude.{◌≡◌, ℕ, Bool, List, Result, Ok, Err, if◌then◌else◌}
use Rattle.std.specs.Int.{Width}
use Rattle.dk_bytes.specs.Fields.{Place, number_at}
use Rattle.dk_bytes.specs.Reading.{◌>>=◌}

-- the byte string spells this lawful thing, and has no byte behind it
pub record IsString {A : Type 0} (Is : A → Type 0) (spell : A → List ℕ) (x : A) (bytes : List ℕ) : Type 0 where
  pub lawful : Is x
  pub spelled : bytes ≡ spell x

-- the number that stands next, if it passes the test; else the fault is its own
abbrev pub checked_at : Width → (ℕ → Bool) → Place → Result (ℕ × Place) ℕ
checked_at w test place = do
  n ← number_at w place
  if test n.0 then Ok n else Err place.at

-- a thing that is read whatever stands before it
abbrev pub always : {A : Type 0} → (Place → Result (A × Place) ℕ) → List A → Place → Result (A × Place) ℕ
always read earlier place = read place
