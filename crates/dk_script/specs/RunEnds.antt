-- How a run ends: the replies that are out, and the last line behind them.
use Rattle.std.specs.Prelude.{◌≡◌, ℕ, ◌+◌, ◌-◌, ◌<◌, ◌≤◌, ◌↔◌, ◌⊎◌, List, [], ◌∷◌, ◌++◌, length, take, Option, Some, None, Result, Ok, Err, if◌then◌else◌}
use Rattle.std.specs.Io.KnownBytes.{Appends}
use Rattle.dk_io.specs.declared.streams.Sink.{Ghosts}
use Rattle.dk_io.specs.declared.streams.Source.{Ghosts as SourceGhosts}
use Rattle.dk_types.specs.declared.status.Status.{Status}
use Rattle.dk_types.specs.declared.status.Status.TheVariants.{Usage, BadLine, ReadFault, WriteFault, OutOfMemory, ScriptTooLong}
use Rattle.dk_si.specs.declared.history.Entry.{Entry}
use Rattle.dk_si.specs.Machine.{first_state}
use Rattle.dk_alone.specs.AnswerHistory.{calls_of}
use Rattle.dk_script.specs.Calls.{AreRead}
use Rattle.dk_script.specs.GrammarLines.{has_no_feed}
use Rattle.dk_script.specs.Histories.{history_text, trouble_after, status_for}
use Rattle.dk_script.specs.LastLine.{last_line}
use Rattle.dk_script.specs.RunnerCalls.{IsWhole}
use Rattle.dk_script.specs.Script.{script_requests, first_bad_line}
use Rattle.dk_script.specs.LineSteps.{IfBothKnown}
use Rattle.dk_script.specs.Sinks.{SinkFailed, SourceFailed, HasCauseIn}
use Rattle.dk_script.specs.declared.run.TheConstants.{MAX_SCRIPT}
use Rattle.dk_script.specs.declared.trouble.Trouble.{Trouble}
use Rattle.dk_script.specs.declared.trouble.Trouble.TheVariants.{Nothing}

-- A run ends: Ok at the end of its script, with what its replies told went wrong; Err where something stopped it
-- before, outside a reply.
abbrev pub Ending : Type 0
Ending = Result Trouble Status

abbrev pub status_of : Ending → Status
status_of (Ok trouble) = status_for trouble
status_of (Err status) = status

-- only what stops a run has a last line
abbrev pub end_line : Ending → List ℕ
end_line (Ok trouble) = []
end_line (Err status) = last_line status

-- what a source gave of a script of which this is left
abbrev pub bytes_taken : List ℕ → List ℕ → List ℕ
bytes_taken script rest = take (length script - length rest) script

-- the lines of a text that are whole: its front up to the last line feed
abbrev pub whole_lines : List ℕ → List ℕ
whole_lines [] = []
whole_lines (b ∷ text) = if has_no_feed (b ∷ text) then [] else b ∷ whole_lines text

-- a history answers these requests, all of them and no others, and prints this text
pub record Answers (requests : List (ℕ × List ℕ)) (text : List ℕ) (entries : List Entry) : Type 0 where
  pub whole : IsWhole entries
  pub read : AreRead requests (calls_of entries)
  pub printed : text ≡ history_text first_state entries

-- some history does, and tells that this went wrong
abbrev pub AnswersAll : List (ℕ × List ℕ) → List ℕ → Trouble → Type 0
AnswersAll requests text trouble =
    (entries : List Entry) × Answers requests text entries × (trouble ≡ trouble_after Nothing entries)

-- some history answers the first so many of these requests, and prints this text
abbrev pub AnswersFirst : ℕ → List (ℕ × List ℕ) → List ℕ → Type 0
AnswersFirst n requests text = (entries : List Entry) × Answers (take n requests) text entries

-- the replies that are out when a run ends, where this is left of the script
abbrev pub AreReplies : Ending → List ℕ → List ℕ → List ℕ → Type 0
AreReplies (Ok trouble) script rest text =
    (rest ≡ []) × (first_bad_line script ≡ None) × AnswersAll (script_requests script) text trouble
AreReplies (Err Usage) script rest text = (rest ≡ script) × (text ≡ [])
AreReplies (Err (BadLine line)) script rest text = (first_bad_line script ≡ Some line)
    × (entries : List Entry) × Answers (script_requests script) text entries
AreReplies (Err ReadFault) script rest text =
    let whole = whole_lines (bytes_taken script rest) in
    (first_bad_line whole ≡ None) × (entries : List Entry) × Answers (script_requests whole) text entries
AreReplies (Err ScriptTooLong) script rest text = (n : ℕ) × AnswersFirst n (script_requests script) text
AreReplies (Err WriteFault) script rest text =
    (n m : ℕ) × (all : List ℕ) × AnswersFirst n (script_requests script) all × (text ≡ take m all)
AreReplies (Err OutOfMemory) script rest text =
    (n m : ℕ) × (all : List ℕ) × AnswersFirst n (script_requests script) all × (text ≡ take m all)
AreReplies (Err status) script rest text = ⊥

-- a run over a script left these replies in the sink
pub record Replies (ending : Ending) (script rest : List ℕ) (old new : Option (List ℕ)) : Type 0 where
  pub text : List ℕ
  pub due : AreReplies ending script rest text
  pub sent : Appends old new text

-- a script is too long where the source gave more of it than it may have
abbrev pub IsTooLongScript : Status → List ℕ → List ℕ → Type 0
IsTooLongScript status script rest = (status ≡ ScriptTooLong) ↔ (MAX_SCRIPT + length rest < length script)

-- a script was run, up to the last line: its replies, its cause, and the count of the sink's faults, which did not fall
pub record RunsScript {S K : Type 0} (g : SourceGhosts S) (h : Ghosts K) (before after : S) (old new : K)
    (ending : Ending) : Type 0 where
  pub replies : IfBothKnown (g.left before) (g.left after) (λ script rest.
      Replies ending script rest (h.taken old) (h.taken new))
  pub too_long : IfBothKnown (g.left before) (g.left after) (IsTooLongScript (status_of ending))
  pub cause : HasCauseIn ⊥ (SourceFailed g before after) (SinkFailed h old new) (status_of ending)
  pub later : h.faults old ≤ h.faults new

-- the sink took this text and then the last line, or a front of it where the sink failed
pub record EndsWithLastLine {K : Type 0} (g : Ghosts K) (old new : K) (text last : List ℕ) : Type 0 where
  pub count : ℕ
  pub within : count ≤ length last
  pub taken : Appends (g.taken old) (g.taken new) (text ++ take count last)
  pub whole : (count ≡ length last) ⊎ SinkFailed g old new

-- a run over a script left its replies in the sink, and then the last line of its end
pub record Prints {K : Type 0} (g : Ghosts K) (old new : K) (status : Status) (script rest : List ℕ) : Type 0 where
  pub ending : Ending
  pub is : status ≡ status_of ending
  pub text : List ℕ
  pub due : AreReplies ending script rest text
  pub sent : EndsWithLastLine g old new text (end_line ending)
