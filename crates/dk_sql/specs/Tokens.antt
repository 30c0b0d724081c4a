-- The tokens of a statement's text: each the longest that the bytes from its first one on begin with, with blanks
-- before, between and after them.
use Rattle.std.specs.Prelude.{ℕ, zero, suc, ◌+◌, ◌-◌, ◌*◌, Bool, false, ◌&&◌, ◌||◌, not, List, [], ◌∷◌, length, map, take, drop, ◌==◌, nat_lt, nat_le, codes, Option, Some, None, Ok, Err, if◌then◌else◌}
use Rattle.std.specs.List.{prefix_len, list_any}
use Rattle.std.specs.Char.{to_ascii_lowercase}
use Rattle.std.specs.Str.{is_utf8, str_eq_ignore_ascii_case}
use Rattle.dk_values.specs.Names.{is_name}
use Rattle.dk_sql.specs.Readers.{Outcome, Reader, ◌>>=◌}

-- a space or a tab
abbrev pub is_blank : ℕ → Bool
is_blank b = b == 32 || b == 9

abbrev pub is_digit : ℕ → Bool
is_digit b = nat_le 48 b && nat_le b 57

-- an ASCII letter or a low line
abbrev pub begins_word : ℕ → Bool
begins_word b = (nat_le 65 b && nat_le b 90) || ((nat_le 97 b && nat_le b 122) || b == 95)

abbrev pub continues_word : ℕ → Bool
continues_word b = begins_word b || is_digit b

-- any byte but the sign '
abbrev pub is_inside : ℕ → Bool
is_inside b = not (b == 39)

-- the first byte passes a test
abbrev pub begins : (ℕ → Bool) → List ℕ → Bool
begins test [] = false
begins test (b ∷ bytes) = test b

-- the text from its first byte on that is no blank
abbrev pub unblank : List ℕ → List ℕ
unblank text = drop (prefix_len is_blank text) text

-- how many bytes are left from there on
abbrev pub bytes_left : List ℕ → ℕ
bytes_left text = length (unblank text)

-- what stands next is a fault
abbrev pub fault_at : {A : Type 0} → List ℕ → Outcome A
fault_at text = Err (bytes_left text)

-- what stands next is found, or is a fault
abbrev pub found_at : {A : Type 0} → List ℕ → Option A → Outcome A
found_at text None = fault_at text
found_at text (Some x) = Ok x

-- ---- words: a letter or _, followed by letters, digits and _

-- how long the word at the front is
abbrev pub word_len : List ℕ → ℕ
word_len [] = 0
word_len (b ∷ text) = if begins_word b then prefix_len continues_word (b ∷ text) else 0

-- a word as it is written, and the rest
abbrev pub word_in : List ℕ → Option (List ℕ × List ℕ)
word_in text = if word_len text == 0 then None else Some (take (word_len text) text, drop (word_len text) text)

abbrev pub word_at : Reader (List ℕ)
word_at text = found_at text (word_in (unblank text))

-- words are the same in capital and in small letters
abbrev pub is_same_word : List ℕ → List ℕ → Bool
is_same_word word wanted = str_eq_ignore_ascii_case word wanted

abbrev pub rest_behind : List ℕ → Option (List ℕ × List ℕ) → Option (List ℕ)
rest_behind wanted None = None
rest_behind wanted (Some word) = if is_same_word word.0 wanted then Some word.1 else None

-- the rest behind this word, where it stands next
abbrev pub keyword_after : List ℕ → List ℕ → Option (List ℕ)
keyword_after wanted text = rest_behind wanted (word_in (unblank text))

abbrev pub keyword_at : List ℕ → List ℕ → Outcome (List ℕ)
keyword_at wanted text = found_at text (keyword_after wanted text)

-- the words of the grammar
unfoldable pub reserved_words : List (List ℕ)
reserved_words =
    codes "and" ∷ codes "asc" ∷ codes "begin" ∷ codes "bigint" ∷ codes "boolean" ∷ codes "by" ∷
    codes "checkpoint" ∷ codes "commit" ∷ codes "copy" ∷ codes "count" ∷ codes "create" ∷ codes "delete" ∷
    codes "desc" ∷ codes "false" ∷ codes "from" ∷ codes "group" ∷ codes "insert" ∷ codes "integer" ∷
    codes "into" ∷ codes "is" ∷ codes "limit" ∷ codes "max" ∷ codes "min" ∷ codes "not" ∷ codes "null" ∷
    codes "or" ∷ codes "order" ∷ codes "rollback" ∷ codes "select" ∷ codes "set" ∷ codes "stdin" ∷
    codes "sum" ∷ codes "table" ∷ codes "true" ∷ codes "update" ∷ codes "values" ∷ codes "varchar" ∷
    codes "where" ∷ []

-- one of these, which is no name
abbrev pub is_reserved : List ℕ → Bool
is_reserved word = list_any (λ reserved. is_same_word word reserved) reserved_words

-- a name: any other word of at most 63 bytes, its letters folded to lower case
abbrev pub name_at : Reader (List ℕ)
name_at text = do
  word ← word_at text
  if is_name word.0 && not (is_reserved word.0) then Ok (map to_ascii_lowercase word.0, word.1) else fault_at text

-- ---- signs of one byte

abbrev pub mark_in : ℕ → List ℕ → Option (List ℕ)
mark_in mark [] = None
mark_in mark (b ∷ rest) = if b == mark then Some rest else None

-- the rest behind this sign, where it stands next
abbrev pub mark_after : ℕ → List ℕ → Option (List ℕ)
mark_after mark text = mark_in mark (unblank text)

abbrev pub mark_at : ℕ → List ℕ → Outcome (List ℕ)
mark_at mark text = found_at text (mark_after mark text)

-- ---- numbers: runs of digits

-- the number that digits go on with
abbrev pub value_from : ℕ → List ℕ → ℕ
value_from n [] = n
value_from n (d ∷ digits) = value_from (10 * n + (d - 48)) digits

abbrev pub number_within : ℕ → ℕ → List ℕ → Option (ℕ × List ℕ)
number_within most n rest = if nat_le n most then Some (n, rest) else None

abbrev pub number_in : ℕ → List ℕ → Option (ℕ × List ℕ)
number_in most text =
    if prefix_len is_digit text == 0 then None
    else number_within most (value_from 0 (take (prefix_len is_digit text) text)) (drop (prefix_len is_digit text) text)

-- a number that is not above its limit
abbrev pub number_at : ℕ → Reader ℕ
number_at most text = found_at text (number_in most (unblank text))

-- ---- texts: UTF-8 between signs ', with '' for one sign

-- how many bytes a piece of a text takes with the sign ' behind it, 0 where none ends so or it is no UTF-8
abbrev pub piece_len : List ℕ → ℕ
piece_len bytes =
    if nat_lt (prefix_len is_inside bytes) (length bytes) && is_utf8 (take (prefix_len is_inside bytes) bytes)
    then prefix_len is_inside bytes + 1 else 0

-- a sign ' right behind a piece goes on with the text
abbrev pub behind_piece : (List ℕ → List ℕ → List ℕ) → List ℕ → Option (List ℕ) → List ℕ
behind_piece behind rest None = rest
behind_piece behind rest (Some inside) = behind rest inside

-- the rest behind the last of the pieces, where closed is the rest behind those before; each takes a byte at least
abbrev pub behind_pieces : ℕ → List ℕ → List ℕ → List ℕ
behind_pieces zero closed bytes = closed
behind_pieces (suc turns) closed bytes =
    if piece_len bytes == 0 then closed
    else behind_piece (λ closed bytes. behind_pieces turns closed bytes) (drop (piece_len bytes) bytes)
    (mark_in 39 (drop (piece_len bytes) bytes))

-- the rest behind the longest text that is open in front of the bytes; all of them, where there is none
abbrev pub behind_text : List ℕ → List ℕ
behind_text bytes = behind_pieces (length bytes) bytes bytes

-- of each two signs ' that follow one another only the first; whether a first one has just stood
abbrev pub single : Bool → List ℕ → List ℕ
single first [] = []
single first (b ∷ bytes) = if b == 39 && first then single false bytes else b ∷ single (b == 39) bytes

-- the bytes of a text that is open in front, and the rest behind it
abbrev pub text_until : List ℕ → List ℕ → Option (List ℕ × List ℕ)
text_until bytes rest =
    if nat_lt (length rest) (length bytes) then Some
    (single false (take (length bytes - length rest - 1) bytes), rest) else None

abbrev pub text_in : List ℕ → Option (List ℕ × List ℕ)
text_in [] = None
text_in (b ∷ bytes) = if b == 39 then text_until bytes (behind_text bytes) else None

abbrev pub text_at : Reader (List ℕ)
text_at text = found_at text (text_in (unblank text))

-- the place of what stands next, in a text of so many bytes
abbrev pub place_at : ℕ → List ℕ → ℕ
place_at whole text = whole - bytes_left text
