-- Where a reader stands in a byte string, and what it reads there.
use Rattle.std.specs.Prelude.{◌≡◌, ℕ, ◌+◌, ◌<◌, List, ◌++◌, length, get_or, take, drop, Result, Ok, Err, nat_lt, if◌then◌else◌}
use Rattle.std.specs.Int.{Width, byte_len, from_le_bytes}

-- each item is a byte
abbrev pub IsBytes : List ℕ → Type 0
IsBytes bytes = (i : ℕ) → get_or bytes i 0 < 256

-- an offset in the byte string, and the bytes from there on
pub record Place : Type 0 where
  pub at : ℕ
  pub rest : List ℕ

-- the place before these bytes, and the place behind them
pub record Passes (old new : Place) (bytes : List ℕ) : Type 0 where
  pub rest : old.rest ≡ bytes ++ new.rest
  pub at : new.at ≡ old.at + length bytes

-- the place n bytes further on
abbrev pub behind : ℕ → Place → Place
behind n place = record { at = place.at + n; rest = drop n place.rest }

-- the next n bytes and the place behind them, or the place where they are short
abbrev pub bytes_at : ℕ → Place → Result (List ℕ × Place) ℕ
bytes_at n place = if nat_lt (length place.rest) n then Err place.at else Ok (take n place.rest, behind n place)

-- the next number of this width, the least byte first, and the place behind it, or the place where it is short
abbrev pub number_at : Width → Place → Result (ℕ × Place) ℕ
number_at w place =
    if nat_lt (length place.rest) (byte_len w) then Err place.at
    else Ok (from_le_bytes w (take (byte_len w) place.rest), behind (byte_len w) place)
