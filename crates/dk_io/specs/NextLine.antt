-- What a call for the next line does, by what it answers.
use Rattle.std.specs.Prelude.{◌≡◌, ◌↔◌, ℕ, ◌+◌, ◌<◌, ◌≤◌, true, false, List, [], length, Option, Result, IfOk, IfErr, OnErr, IsErrOf, ⊤}
use Rattle.std.specs.Io.KnownBytes.{IsAtEnd}
use Rattle.dk_fault.specs.Causes.{Rose}
use Rattle.dk_io.specs.LinesLeft.{lines_left, answer_content, line_count, Pops, Stays, BeginsTooLong, Counts}
use Rattle.dk_io.specs.LinesGiven.{Passes, lines_given}
use Rattle.dk_io.specs.ReaderState.{ReaderState}
use Rattle.dk_io.specs.declared.lines.LineError.{LineError}
use Rattle.dk_io.specs.declared.lines.LineError.TheVariants.{TooLong, TooMuch, Fault, OutOfMemory}
use Rattle.dk_io.specs.declared.lines.Next.{Next}
use Rattle.dk_io.specs.declared.lines.Next.TheVariants.{Line}
use Rattle.dk_io.specs.declared.streams.Source.{Ghosts}

-- the first of the lines to come was answered, and counted; one that is lent is within the limit
pub record ReadsLine {S : Type 0} (g : Ghosts S) (old new : ReaderState) (before after : S) (next : Next) : Type 0 where
  pub pops : Pops (lines_left old (g.left before)) (answer_content next new.line) (lines_left new (g.left after))
  pub counted : new.number ≡ old.number + line_count next
  pub short : next ≡ Line → length new.line ≤ old.limit

-- no line was lost or counted, and the next call tries again
pub record KeepsLines {S : Type 0} (g : Ghosts S) (old new : ReaderState) (before after : S) : Type 0 where
  pub kept : Stays (lines_left old (g.left before)) (lines_left new (g.left after))
  pub uncounted : new.number ≡ old.number
  pub going : new.ended ≡ false

-- why no line came: the next one is too long; the text is; the source failed, and nothing is held
abbrev pub HasReason : {S : Type 0} → Ghosts S → ReaderState → ReaderState → S → S → LineError → Type 0
HasReason g old new before after (TooLong line) =
    (line ≡ old.number + 1) × BeginsTooLong old.limit (lines_left old (g.left before))
HasReason g old new before after TooMuch = new.total < new.taken
HasReason g old new before after Fault = Rose (g.faults before) (g.faults after) × (new.held ≡ [])
HasReason g old new before after OutOfMemory = ⊤

-- a reader holds nothing, and the source has nothing left
pub record IsReadOut (reading : ReaderState) (left : Option (List ℕ)) : Type 0 where
  pub begun : reading.begun ≡ []
  pub held : reading.held ≡ []
  pub source : IsAtEnd left

-- until the input ends only line feeds end lines, whatever follows; at its end nothing is left
pub record TellsEnd {S : Type 0} (g : Ghosts S) (old new : ReaderState) (before after : S)
    (lines : List (Option (List ℕ))) : Type 0 where
  pub passes : new.ended ≡ false → Passes old new (g.left before) (g.left after) lines
  pub ended : new.ended ≡ true → IsReadOut new (g.left after)

-- what the source gave is counted, its count of faults did not fall, and the limits stay
pub record CountsOn {S : Type 0} (g : Ghosts S) (old new : ReaderState) (before after : S) : Type 0 where
  pub taken : Counts old.taken (g.left before) new.taken (g.left after)
  pub later : g.faults before ≤ g.faults after
  pub limit : new.limit ≡ old.limit
  pub total : new.total ≡ old.total

-- A call for the next line: it reads one, or loses none and says why. Until the input ends, only line feeds end lines,
-- whatever follows. The text is too much where more than the limit of the whole was taken, and only there.
pub record GoesOn {S : Type 0} (g : Ghosts S) (old new : ReaderState) (before after : S)
    (result : Result Next LineError) : Type 0 where
  pub line : IfOk result (λ next. ReadsLine g old new before after next)
  pub kept : OnErr result (KeepsLines g old new before after)
  pub reason : IfErr result (λ e. HasReason g old new before after e)
  pub much : IsErrOf result TooMuch ↔ (new.total < new.taken)
  pub end : TellsEnd g old new before after (lines_given result new.line)
  pub counts : CountsOn g old new before after
