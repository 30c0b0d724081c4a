-- What contracts see of a line reader, and of its answers.
use Rattle.std.specs.Prelude.{◌≡◌, ℕ, ◌+◌, ◌<◌, List, [], ◌∷◌, ◌++◌, length, Option, None, Some, ⊤}
use Rattle.std.specs.Option.{option_map}
use Rattle.dk_io.specs.Lines.{contents_after}
use Rattle.dk_io.specs.declared.lines.Next.{Next}
use Rattle.dk_io.specs.declared.lines.Next.TheVariants.{End, Passed, Line}
use Rattle.dk_io.specs.ReaderState.{ReaderState}

-- the contents of the lines that a reader has yet to give, over a source with these bytes left
abbrev pub lines_left : ReaderState → Option (List ℕ) → Option (List (Option (List ℕ)))
lines_left reading left = option_map (λ text. contents_after reading.begun (reading.held ++ text)) left

-- the content that an answer gives of a line, if it gives one
abbrev pub answer_content : Next → List ℕ → Option (Option (List ℕ))
answer_content End line = None
answer_content Passed line = Some None
answer_content Line line = Some (Some line)

-- how many lines an answer stands for
abbrev pub line_count : Next → ℕ
line_count End = 0
line_count Passed = 1
line_count Line = 1

-- the first item of a known list, if there is one, and the items after it
abbrev pub Pops : {T : Type 0} → Option (List T) → Option T → Option (List T) → Type 0
Pops None first new = ⊤
Pops (Some xs) first None = ⊥
Pops (Some xs) None (Some ys) = (xs ≡ []) × (ys ≡ [])
Pops (Some xs) (Some x) (Some ys) = xs ≡ x ∷ ys

-- a known value stays as it was
abbrev pub Stays : {T : Type 0} → Option T → Option T → Type 0
Stays None new = ⊤
Stays (Some x) None = ⊥
Stays (Some x) (Some y) = y ≡ x

-- the first of the known lines has a content, and is longer than the limit
abbrev pub BeginsTooLong : ℕ → Option (List (Option (List ℕ))) → Type 0
BeginsTooLong limit None = ⊤
BeginsTooLong limit (Some []) = ⊥
BeginsTooLong limit (Some (None ∷ lines)) = ⊥
BeginsTooLong limit (Some (Some line ∷ lines)) = limit < length line

-- the bytes taken grow by those that the source no longer has
abbrev pub Counts : ℕ → Option (List ℕ) → ℕ → Option (List ℕ) → Type 0
Counts before None now new = ⊤
Counts before (Some xs) now None = ⊥
Counts before (Some xs) now (Some ys) = before + length xs ≡ now + length ys
