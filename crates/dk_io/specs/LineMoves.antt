-- What one step of a reader does to its counts, and to the lines that it has yet to give.
use Rattle.std.specs.Prelude.{◌≡◌, ℕ, ◌+◌, ◌<◌, ◌≤◌, Bool, true, List, [], ◌++◌, Option, Some, ⊤}
use Rattle.std.specs.Io.KnownBytes.{Consumes}
use Rattle.dk_fault.specs.Causes.{Rose}
use Rattle.dk_io.specs.Lines.{contents_after, is_too_long}
use Rattle.dk_io.specs.ReaderState.{ReaderState}
use Rattle.dk_io.specs.LinesLeft.{lines_left, answer_content, Pops}
use Rattle.dk_io.specs.declared.lines.LineError.{LineError}
use Rattle.dk_io.specs.declared.lines.LineError.TheVariants.{TooLong, TooMuch, Fault, OutOfMemory}
use Rattle.dk_io.specs.declared.lines.Next.{Next}
use Rattle.dk_io.specs.declared.streams.Source.{Ghosts}

-- so many lines were read of so many bytes, this is known of the end of the input, and the limits stay
pub record CountsTo (old new : ReaderState) (lines bytes : ℕ) (end : Bool) : Type 0 where
  pub number : new.number ≡ lines
  pub taken : new.taken ≡ bytes
  pub ended : new.ended ≡ end
  pub limit : new.limit ≡ old.limit
  pub total : new.total ≡ old.total

-- what the source gave is held, and its count of faults did not fall
pub record Fills {S : Type 0} (g : Ghosts S) (old new : ReaderState) (before after : S) : Type 0 where
  pub bytes : Consumes (g.left before) (g.left after) new.held
  pub begun : new.begun ≡ old.begun
  pub later : g.faults before ≤ g.faults after

-- why nothing came: the text is too long, or the source failed, and nothing is held
abbrev pub StopsFilling : {S : Type 0} → Ghosts S → ReaderState → S → S → LineError → Type 0
StopsFilling g new before after (TooLong line) = ⊥
StopsFilling g new before after TooMuch = new.total < new.taken
StopsFilling g new before after Fault = Rose (g.faults before) (g.faults after) × (new.held ≡ [])
StopsFilling g new before after OutOfMemory = ⊥

-- bytes held go to the line that has begun, and the lines to come are the same
pub record Moves (old new : ReaderState) : Type 0 where
  pub same : (text : List ℕ) →
      contents_after new.begun (new.held ++ text) ≡ contents_after old.begun (old.held ++ text)

-- why they did not: the line that has begun is too long, or memory is missing
abbrev pub StopsMoving : ReaderState → ReaderState → LineError → Type 0
StopsMoving old new (TooLong line) =
    (line ≡ old.number + 1) × (0 < old.limit) × (is_too_long old.limit new.begun ≡ true)
StopsMoving old new TooMuch = ⊥
StopsMoving old new Fault = ⊥
StopsMoving old new OutOfMemory = ⊤

-- the first of the lines to come is answered, whatever the source has left
pub record EndsLine (old new : ReaderState) (next : Next) : Type 0 where
  pub pops : (left : Option (List ℕ)) → Pops (lines_left old left) (answer_content next new.line) (lines_left new left)

-- the first of the lines to come is answered, where the source has nothing left
pub record EndsText (old new : ReaderState) (next : Next) : Type 0 where
  pub pops : Pops (lines_left old (Some [])) (answer_content next new.line) (lines_left new (Some []))
