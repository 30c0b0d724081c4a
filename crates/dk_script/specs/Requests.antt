-- What a line of a script asks: a session's number from 1 to the greatest without leading zeros, `: `, a statement's
-- text in UTF-8, and `;` as the last byte.
use Rattle.std.specs.Prelude.{ℕ, ◌+◌, ◌-◌, ◌*◌, Bool, ◌&&◌, List, [], ◌∷◌, length, take, drop, ◌==◌, nat_eq, nat_le, slice_index, codes, Option, Some, None, option_and_then, if◌then◌else◌}
use Rattle.std.specs.List.{starts_with}
use Rattle.std.specs.Str.{is_utf8}
use Rattle.dk_script.specs.declared.line.TheConstants.{MAX_SESSION}

infixl 10 ◌>>=◌
abbrev pub ◌>>=◌ : {A B : Type 0} → Option A → (A → Option B) → Option B
o >>= f = option_and_then f o

abbrev pub is_digit : ℕ → Bool
is_digit b = nat_le 48 b && nat_le b 57

-- the number of one digit, or of two and at most the greatest
abbrev pub session_behind : ℕ → List ℕ → Option (ℕ × List ℕ)
session_behind n [] = Some (n, [])
session_behind n (b ∷ rest) =
    if is_digit b then (if nat_le (10 * n + (b - 48)) MAX_SESSION then Some (10 * n + (b - 48), rest) else None)
    else Some (n, b ∷ rest)

-- the session's number at the front, without leading zeros
abbrev pub session_at : List ℕ → Option (ℕ × List ℕ)
session_at [] = None
session_at (a ∷ rest) = if nat_le 49 a && nat_le a 57 then session_behind (a - 48) rest else None

-- the text between `: ` and the `;` that ends the line
abbrev pub text_in : List ℕ → Option (List ℕ)
text_in rest =
    if starts_with nat_eq rest (codes ": ") && (nat_le 3 (length rest) && slice_index rest (length rest - 1) == 59)
    then Some (take (length rest - 3) (drop 2 rest))
    else None

abbrev pub utf8_text : List ℕ → Option (List ℕ)
utf8_text text = if is_utf8 text then Some text else None

-- what a line asks
abbrev pub request_of : List ℕ → Option (ℕ × List ℕ)
request_of line = session_at line >>= λ session. text_in session.1 >>= λ text. utf8_text text >>= λ text.
    Some (session.0, text)
