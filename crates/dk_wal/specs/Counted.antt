-- Lists behind their number.
use Rattle.std.specs.Prelude.{◌≡◌, ℕ, ◌<◌, ◌-◌, ◌^◌, Bool, true, List, [], ◌++◌, length, slice_get, None, Some, Result, Ok, Err, nat_lt, if◌then◌else◌}
use Rattle.std.specs.List.{flat_map}
use mir.Val.{bits}
use Rattle.std.specs.Int.{Width, to_le_bytes}
use Rattle.dk_bytes.specs.Fields.{Place, number_at}
use Rattle.dk_bytes.specs.Reading.{◌>>=◌, list_at, AllFollow}

-- the number of things, and the things one behind the other
abbrev pub counted : {A : Type 0} → Width → (A → List ℕ) → List A → List ℕ
counted w spell things = to_le_bytes w (length things) ++ flat_map spell things

-- their number passes a test and fits its field, and each of them fits behind those before it
pub record IsCounted {A : Type 0} (w : Width) (may : ℕ → Bool) (Fits : List A → A → Type 0)
    (things : List A) : Type 0 where
  pub count : may (length things) ≡ true
  pub fits : length things < 2 ^ bits w
  pub follow : AllFollow Fits [] things

-- a number that passes a test, and so many things, each read with those before it in view
unfoldable pub counted_at : {A : Type 0} → Width → (ℕ → Bool) → (List A → Place → Result (A × Place) ℕ) → Place
    → Result (List A × Place) ℕ
counted_at w may item place = do
  n ← number_at w place
  count ← if may n.0 then Ok n else Err place.at
  list_at item count.0 [] count.1

-- any number of things
abbrev pub any_number : ℕ → Bool
any_number n = true

-- the last of the things before it has a lower key
abbrev pub is_behind : {A : Type 0} → (A → ℕ) → List A → ℕ → Bool
is_behind key earlier n = elim (slice_get earlier (length earlier - 1)) [ None ↦ true | Some last ↦ nat_lt (key last) n ]
