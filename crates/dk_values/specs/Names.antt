-- What a name is.
use Rattle.dk_values.specs.declared.column.TheConstants.{MAX_NAME}
use Rattle.std.specs.Prelude.{ℕ, Bool, ◌&&◌, List, length, nat_lt, nat_le}

-- a name has at least one byte, and at most 63
abbrev pub is_name : List ℕ → Bool
is_name name = nat_lt 0 (length name) && nat_le (length name) MAX_NAME
