-- The lines of a text, and which of them are passed over.
use Rattle.std.specs.Prelude.{ℕ, Bool, false, true, ◌&&◌, ◌==◌, nat_lt, List, [], ◌∷◌, ◌++◌, length, take, map, Option, None, Some, if◌then◌else◌}
use Rattle.std.specs.Str.Lines.{strip_carriage_return}

-- the line that the end of a text ends, if one has begun
abbrev pub last_line : List ℕ → List (List ℕ)
last_line [] = []
last_line (a ∷ begun) = strip_carriage_return (a ∷ begun) ∷ []

-- the lines of a text whose first line has begun: each ends with a line feed or with the text, and loses one carriage
-- return at its end
abbrev pub lines_after : List ℕ → List ℕ → List (List ℕ)
lines_after begun [] = last_line begun
lines_after begun (b ∷ text) = if b == 10 then strip_carriage_return begun ∷ lines_after [] text else lines_after
    (begun ++ b ∷ []) text

-- the lines of a text
abbrev pub lines_of : List ℕ → List (List ℕ)
lines_of text = lines_after [] text

-- a line that begins with two dashes
abbrev pub is_comment : List ℕ → Bool
is_comment [] = false
is_comment (a ∷ []) = false
is_comment (a ∷ b ∷ line) = a == 45 && b == 45

-- a line that is passed over: an empty one and a comment
abbrev pub is_passed : List ℕ → Bool
is_passed [] = true
is_passed (a ∷ line) = is_comment (a ∷ line)

-- the content of a line: one that is passed over has none
abbrev pub line_content : List ℕ → Option (List ℕ)
line_content line = if is_passed line then None else Some line

-- the contents of the lines of a text whose first line has begun
abbrev pub contents_after : List ℕ → List ℕ → List (Option (List ℕ))
contents_after begun text = map line_content (lines_after begun text)

-- the contents of the lines of a text
abbrev pub line_contents : List ℕ → List (Option (List ℕ))
line_contents text = map line_content (lines_of text)

-- what has to be kept of a line that has begun: of a comment, its two dashes
abbrev pub kept_part : List ℕ → List ℕ
kept_part begun = if is_comment begun then take 2 begun else begun

-- a line that has begun and is past the limit, whatever comes
abbrev pub is_too_long : ℕ → List ℕ → Bool
is_too_long limit begun = if is_comment begun then false else nat_lt limit (length (strip_carriage_return begun))
