-- What a script asks: its lines up to the first that is outside the grammar, in their order.
use Rattle.std.specs.Prelude.{ℕ, Bool, true, false, not, bytes_eq, codes, is_some, List, [], ◌∷◌, length, nat_le, take_while, filter_map, Option, Some, None, if◌then◌else◌}
use Rattle.std.specs.List.{position_from}
use Rattle.dk_io.specs.Lines.{line_contents}
use Rattle.dk_script.specs.Requests.{request_of}
use Rattle.dk_script.specs.declared.line.TheConstants.{MAX_LINE}

-- a line of a script, none where it is empty or a comment, which is passed over
abbrev pub Line : Type 0
Line = Option (List ℕ)

-- what a line within the limit asks
abbrev pub short_request : List ℕ → Option (ℕ × List ℕ)
short_request line = if nat_le (length line) MAX_LINE then request_of line else None

abbrev pub request_in : Line → Option (ℕ × List ℕ)
request_in None = None
request_in (Some line) = short_request line

-- a line is in the grammar where it is passed over or asks something
abbrev pub is_good : Line → Bool
is_good None = true
is_good (Some line) = is_some (short_request line)

-- what the lines before the first bad one ask
abbrev pub requests_of : List Line → List (ℕ × List ℕ)
requests_of lines = filter_map request_in (take_while is_good lines)

-- the number of the first bad line, where the lines are counted from n
abbrev pub first_bad_from : ℕ → List Line → Option ℕ
first_bad_from n lines = position_from (λ line. not (is_good line)) n lines

-- what a script asks, up to its first bad line
abbrev pub script_requests : List ℕ → List (ℕ × List ℕ)
script_requests script = requests_of (line_contents script)

-- the number of the first line of a script that is outside the grammar, counted from 1
abbrev pub first_bad_line : List ℕ → Option ℕ
first_bad_line script = first_bad_from 1 (line_contents script)

-- the one word that there is
abbrev pub is_run : List (List ℕ) → Bool
is_run [] = false
is_run (word ∷ []) = bytes_eq word (codes "run")
is_run (word ∷ more ∷ words) = false
