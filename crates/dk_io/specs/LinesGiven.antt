-- The lines that a call gave, and the bytes of the source that ended them while the input goes on.
use Rattle.std.specs.Prelude.{◌≡◌, ℕ, List, [], ◌∷◌, ◌++◌, Option, None, Some, Result, Ok, Err}
use Rattle.std.specs.Io.KnownBytes.{Consumes}
use Rattle.dk_io.specs.Lines.{contents_after}
use Rattle.dk_io.specs.ReaderState.{ReaderState}
use Rattle.dk_io.specs.LinesLeft.{answer_content}
use Rattle.dk_io.specs.declared.lines.LineError.{LineError}
use Rattle.dk_io.specs.declared.lines.Next.{Next}

abbrev pub one_line : Option (Option (List ℕ)) → List (Option (List ℕ))
one_line None = []
one_line (Some line) = line ∷ []

-- the lines that a call gave: one or none
abbrev pub lines_given : Result Next LineError → List ℕ → List (Option (List ℕ))
lines_given (Ok next) line = one_line (answer_content next line)
lines_given (Err e) line = []

-- the bytes that the source gave ended these lines, whatever text follows them
pub record Passes (old new : ReaderState) (before after : Option (List ℕ)) (lines : List (Option (List ℕ))) : Type 0
  where
    pub bytes : List ℕ
    pub given : Consumes before after bytes
    pub same : (text : List ℕ) → contents_after old.begun (old.held ++ (bytes ++ text)) ≡ lines ++ contents_after
        new.begun (new.held ++ text)
