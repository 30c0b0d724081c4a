-- What a run does with one line. A run over a runner knows which histories the runner stands for.
use Rattle.std.specs.Prelude.{◌≡◌, ◌≤◌, ◌<◌, ◌↔◌, ℕ, ◌+◌, Bool, true, false, List, [], ◌∷◌, ◌++◌, take, Option, Some, None, IfSome, Result, Err, ⊤}
use Rattle.std.specs.Io.KnownBytes.{Appends}
use Rattle.dk_io.specs.Sinks.{TakesFront}
use Rattle.dk_io.specs.NextLine.{CountsOn}
use Rattle.dk_io.specs.LinesGiven.{Passes}
use Rattle.dk_io.specs.ReaderState.{ReaderState}
use Rattle.dk_io.specs.LinesLeft.{lines_left, Pops}
use Rattle.dk_io.specs.declared.streams.Source.{Ghosts}
use Rattle.dk_types.specs.declared.status.Status.{Status}
use Rattle.dk_types.specs.declared.status.Status.TheVariants.{BadLine, ReadFault, WriteFault, OutOfMemory, ScriptTooLong}
use Rattle.dk_si.specs.declared.history.Entry.{Entry}
use Rattle.dk_si.specs.Laws.{state_after}
use Rattle.dk_si.specs.Machine.{first_state}
use Rattle.dk_alone.specs.AnswerHistory.{calls_of}
use Rattle.dk_script.specs.Calls.{AreRead}
use Rattle.dk_script.specs.Histories.{history_text, trouble_after}
use Rattle.dk_script.specs.Script.{Line, is_good, requests_of}
use Rattle.dk_script.specs.declared.run.Run.{Run}
use Rattle.dk_script.specs.declared.trouble.Trouble.{Trouble}

-- a fact for two things that are known, the second one where the first is
abbrev pub IfBothKnown : {A B : Type 0} → Option A → Option B → (A → B → Type 0) → Type 0
IfBothKnown None b P = ⊤
IfBothKnown (Some x) None P = ⊥
IfBothKnown (Some x) (Some y) P = P x y

-- the text of the entries that come behind these
abbrev pub text_behind : List Entry → List Entry → List ℕ
text_behind entries more = history_text (state_after [] first_state entries) more

-- Behind entries that stood stand more, which answer these requests. Their text was taken.
pub record GoesOn {R : Type 0} (stands : R → List Entry → Type 0) (next : R) (before after : Trouble)
    (old new : Option (List ℕ)) (requests : List (ℕ × List ℕ)) (entries : List Entry) : Type 0 where
  pub more : List Entry
  pub stood : stands next (entries ++ more)
  pub read : AreRead requests (calls_of more)
  pub taken : Appends old new (text_behind entries more)
  pub trouble : after ≡ trouble_after before more

-- the same, where a front of their text was taken
pub record TakesPart {R : Type 0} (stands : R → List Entry → Type 0) (next : R)
    (old new : Option (List ℕ)) (requests : List (ℕ × List ℕ)) (entries : List Entry) : Type 0 where
  pub more : List Entry
  pub stood : stands next (entries ++ more)
  pub read : AreRead requests (calls_of more)
  pub front : TakesFront old new (text_behind entries more)

-- a line of the grammar was answered, behind all entries that may have stood
pub record AnswersLine {R : Type 0} (stands : R → List Entry → Type 0) (run next : Run R)
    (old new : Option (List ℕ)) (line : Line) : Type 0 where
  pub good : is_good line ≡ true
  pub goes : (entries : List Entry) → stands run.runner entries
      → GoesOn stands next.runner run.trouble next.trouble old new (requests_of (line ∷ [])) entries

-- why a line stopped a run, and what was sent before
abbrev pub StopsLine : {R : Type 0} → (R → List Entry → Type 0) → Run R → Run R → Option (List ℕ) → Option (List ℕ)
    → Status → Type 0
StopsLine stands run next old new (BadLine line) = (line ≡ run.reader.number) × (new ≡ old)
    × (is_good (Some run.reader.line) ≡ false)
StopsLine stands run next old new WriteFault = (is_good (Some run.reader.line) ≡ true)
    × ((entries : List Entry) → stands run.runner entries
    → TakesPart stands next.runner old new (requests_of (Some run.reader.line ∷ [])) entries)
StopsLine stands run next old new OutOfMemory = (is_good (Some run.reader.line) ≡ true)
    × ((entries : List Entry) → stands run.runner entries
    → TakesPart stands next.runner old new (requests_of (Some run.reader.line ∷ [])) entries)
StopsLine stands run next old new status = ⊥

-- the next line was read and answered
pub record AnswersNext {R : Type 0} (stands : R → List Entry → Type 0) (run next : Run R)
    (before after old new : Option (List ℕ)) : Type 0 where
  pub line : Line
  pub going : run.reader.ended ≡ false
  pub pops : Pops (lines_left run.reader before) (Some line) (lines_left next.reader after)
  pub passes : next.reader.ended ≡ false → Passes run.reader next.reader before after (line ∷ [])
  pub counted : next.reader.number ≡ run.reader.number + 1
  pub bounded : run.reader.number ≤ run.reader.total + 1
  pub answers : AnswersLine stands run next old new line

-- the first of the lines is outside the grammar
abbrev pub BeginsBad : List Line → Type 0
BeginsBad [] = ⊥
BeginsBad (line ∷ lines) = is_good line ≡ false

-- the source failed within a line
pub record FailsWithin (reading next : ReaderState) (before after : Option (List ℕ)) : Type 0 where
  pub going : reading.ended ≡ false
  pub held : next.held ≡ []
  pub passes : Passes reading next before after []

-- some of what these lines ask was answered, and a front of that was taken
abbrev pub TakesSome : {R : Type 0} → (R → List Entry → Type 0) → Run R → Run R → Option (List ℕ) → Option (List ℕ)
    → List Line → Type 0
TakesSome stands run next old new lines = (n : ℕ) × ((entries : List Entry) → stands run.runner entries
    → TakesPart stands next.runner old new (take n (requests_of lines)) entries)

-- why the next line stopped a run, and what was sent before
abbrev pub StopsNext : {R : Type 0} → (R → List Entry → Type 0) → Run R → Run R → Option (List ℕ) → Option (List ℕ)
    → Option (List ℕ) → Option (List ℕ) → Status → Type 0
StopsNext stands run next before after old new (BadLine line) =
    (line ≡ run.reader.number + 1) × (new ≡ old) × IfSome (lines_left run.reader before) BeginsBad
StopsNext stands run next before after old new ReadFault =
    (new ≡ old) × FailsWithin run.reader next.reader before after
StopsNext stands run next before after old new ScriptTooLong = new ≡ old
StopsNext stands run next before after old new WriteFault =
    IfSome (lines_left run.reader before) (TakesSome stands run next old new)
StopsNext stands run next before after old new OutOfMemory =
    IfSome (lines_left run.reader before) (TakesSome stands run next old new)
StopsNext stands run next before after old new status = ⊥

-- nothing was left, and nothing was done
pub record EndsHere {R : Type 0} (run next : Run R) (before after old new : Option (List ℕ)) : Type 0 where
  pub still : new ≡ old
  pub runner : next.runner ≡ run.runner
  pub trouble : next.trouble ≡ run.trouble
  pub left : IfBothKnown (lines_left run.reader before) after (λ lines rest. (lines ≡ []) × (rest ≡ []))

-- what was read is counted, and a script is too long exactly where that passes its limit
pub record CountsScript {S : Type 0} (g : Ghosts S) (old new : ReaderState) (before after : S)
    (result : Result Bool Status) : Type 0 where
  pub counts : CountsOn g old new before after
  pub much : (result ≡ Err ScriptTooLong) ↔ (new.total < new.taken)
