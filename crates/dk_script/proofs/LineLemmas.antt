-- One line of a run.
use Rattle.std.proofs.Common.{◌≡◌, ℕ, ◌+◌, ◌≤◌, ◌<◌, true, false, List, [], ◌∷◌, ◌++◌, length, take, Option, Some, None, IfSome, cond, refl, sym, ap, subst, ◌∙◌, arith}
use Rattle.std.specs.Prelude.{is_some, unwrap_or, Result, Ok, Err, OnErr, IfErr}
use Rattle.std.proofs.lemmas.Bool.{le-leb, lt-leb}
use Rattle.std.proofs.lemmas.List.{append-nil}
use Rattle.std.proofs.Math.Seq.{take-append_seam}
use Rattle.std.proofs.KnownBytes.{Appends-nil}
use Rattle.std.specs.Io.KnownBytes.{Appends}
use Rattle.dk_io.specs.Sinks.{TakesFront}
use Rattle.dk_io.specs.LinesLeft.{lines_left, Pops, BeginsTooLong}
use Rattle.dk_types.specs.declared.status.Status.{Status}
use Rattle.dk_types.specs.declared.status.Status.TheVariants.{BadLine, WriteFault, OutOfMemory}
use Rattle.dk_si.specs.declared.history.Entry.{Entry}
use Rattle.dk_si.specs.Laws.{state_after}
use Rattle.dk_si.specs.Machine.{first_state}
use Rattle.dk_script.specs.declared.line.TheConstants.{MAX_LINE}
use Rattle.dk_script.specs.declared.run.Run.{Run}
use Rattle.dk_plain_engine.specs.declared.engine.Answer.{Answer}
use Rattle.dk_script.specs.Histories.{trouble_behind}
use Rattle.dk_script.specs.LineSteps.{AnswersLine, GoesOn, TakesPart, TakesSome, StopsLine, StopsNext, BeginsBad}
use Rattle.dk_script.specs.Paging.{IsOutputStop}
use Rattle.dk_script.specs.Requests.{request_of}
use Rattle.dk_script.specs.RunnerCalls.{AnswersCall, exchange}
use Rattle.dk_script.specs.Script.{Line, is_good, short_request, requests_of}
use Rattle.dk_script.specs.Sinks.{HasCauseIn}
use Rattle.dk_texts.specs.Texts.{session_text}
use Rattle.dk_script.specs.declared.trouble.Trouble.{Trouble}
use Rattle.dk_script.proofs.HistoryLemmas.{exchange_text, exchange_read, exchange_trouble}
use Rattle.dk_script.proofs.ScriptLemmas.{one_asked, requests_first}

short_is : (line : List ℕ) (ask : Option (ℕ × List ℕ)) → length line ≤ MAX_LINE → request_of line ≡ ask
    → short_request line ≡ ask
short_is line ask short e = ap (λ b. cond b (request_of line) None) (le-leb _ _ short) ∙ e

long_is : (line : List ℕ) → MAX_LINE < length line → short_request line ≡ None
long_is line long = ap (λ b. cond b (request_of line) None) (lt-leb _ _ long)

-- the text of an answer
abbrev answer_text : ℕ → Answer → List ℕ
answer_text session answer = session_text session (unwrap_or answer.name []) answer.reply

-- what a line asked was answered, and the whole answer was taken
goes_by : {R : Type 0} (stands : R → List Entry → Type 0) (next : R) (before after : Trouble)
    (old new : Option (List ℕ)) (line : Line) (session : ℕ) (text : List ℕ) (answer : Answer) (entries : List Entry)
    → requests_of (line ∷ []) ≡ (session, text) ∷ [] → after ≡ trouble_behind before answer.reply
    → AnswersCall stands next entries session text [] answer → Appends old new (answer_text session answer)
    → GoesOn stands next before after old new (requests_of (line ∷ [])) entries
goes_by stands next before after old new line session text answer entries asks told call taken =
    subst (λ (xs : List (ℕ × List ℕ)). GoesOn stands next before after old new xs entries) (sym asks)
    (record {
      more = exchange session call.asked call.start answer.reply;
      stood = call.stood;
      read = exchange_read session text call.asked call.start answer.reply call.read;
      taken = subst (Appends old new)
          (sym (exchange_text (state_after [] first_state entries) session call.asked call.start answer.reply
          answer.name call.name)) taken;
      trouble = told ∙ sym (exchange_trouble session call.asked call.start answer.reply before);
    })

part_by : {R : Type 0} (stands : R → List Entry → Type 0) (next : R)
    (old new : Option (List ℕ)) (line : Line) (session : ℕ) (text : List ℕ) (answer : Answer) (entries : List Entry)
    → requests_of (line ∷ []) ≡ (session, text) ∷ []
    → AnswersCall stands next entries session text [] answer → TakesFront old new (answer_text session answer)
    → TakesPart stands next old new (requests_of (line ∷ [])) entries
part_by stands next old new line session text answer entries asks call front =
    subst (λ (xs : List (ℕ × List ℕ)). TakesPart stands next old new xs entries) (sym asks)
    (record {
      more = exchange session call.asked call.start answer.reply;
      stood = call.stood;
      read = exchange_read session text call.asked call.start answer.reply call.read;
      front = subst (TakesFront old new)
          (sym (exchange_text (state_after [] first_state entries) session call.asked call.start answer.reply
          answer.name call.name)) front;
    })

-- a line that was read asks that, and was answered so
pub record Answered {R : Type 0} (stands : R → List Entry → Type 0) (old new : R) (line : List ℕ) (session : ℕ)
    (text : List ℕ) (answer : Answer) : Type 0 where
  pub short : length line ≤ MAX_LINE
  pub asks : request_of line ≡ Some (session, text)
  pub call : (entries : List Entry) → stands old entries → AnswersCall stands new entries session text [] answer

is_asked : (line : List ℕ) (session : ℕ) (text : List ℕ) → length line ≤ MAX_LINE
    → request_of line ≡ Some (session, text) → requests_of (Some line ∷ []) ≡ (session, text) ∷ []
is_asked line session text short asks =
    let e = short_is line (Some (session, text)) short asks in
    one_asked (Some line) (session, text) e (ap is_some e)

pub answers_line : {R : Type 0} (stands : R → List Entry → Type 0) (run next : Run R)
    (old new : Option (List ℕ)) (line : List ℕ) (session : ℕ) (text : List ℕ) (answer : Answer)
    → Answered stands run.runner next.runner line session text answer
    → next.trouble ≡ trouble_behind run.trouble answer.reply → Appends old new (answer_text session answer)
    → AnswersLine stands run next old new (Some line)
answers_line stands run next old new line session text answer done told taken =
    record {
      good = ap is_some (short_is line (Some (session, text)) done.short done.asks);
      goes = λ entries before. goes_by stands next.runner run.trouble next.trouble old new (Some line) session text
          answer entries (is_asked line session text done.short done.asks) told (done.call entries before) taken;
    }

-- a front of the answer was taken
pub front_line : {R : Type 0} (stands : R → List Entry → Type 0) (before next : R)
    (old new : Option (List ℕ)) (line : List ℕ) (session : ℕ) (text : List ℕ) (answer : Answer)
    → Answered stands before next line session text answer → TakesFront old new (answer_text session answer)
    → (entries : List Entry) → stands before entries
    → TakesPart stands next old new (requests_of (Some line ∷ [])) entries
front_line stands before next old new line session text answer done front entries stood =
    part_by stands next old new (Some line) session text answer entries
    (is_asked line session text done.short done.asks) (done.call entries stood) front

-- a line that asks something is good
pub asks_is_good : (line : List ℕ) (session : ℕ) (text : List ℕ) → length line ≤ MAX_LINE
    → request_of line ≡ Some (session, text) → is_good (Some line) ≡ true
asks_is_good line session text short asks = ap is_some (short_is line (Some (session, text)) short asks)

-- a line that was read, and is bad
pub read_bad : (a b : Option (List Line)) (line : List ℕ) → Pops a (Some (Some line)) b → is_good (Some line) ≡ false
    → IfSome a BeginsBad
read_bad None b line pops bad = tt
read_bad (Some lines) None line pops bad = absurd pops
read_bad (Some []) (Some left) line pops bad = absurd (cc pops)
read_bad (Some (x ∷ lines)) (Some left) line pops bad = let heads : Some line ≡ x = cc in
    subst (λ (l : Line). is_good l ≡ false) heads bad

-- the first of these lines was answered, and a front of that was taken
pub front_read : {R : Type 0} (stands : R → List Entry → Type 0) (run next : Run R) (a b : Option (List Line))
    (line : List ℕ) (old new : Option (List ℕ)) → Pops a (Some (Some line)) b → is_good (Some line) ≡ true
    → ((entries : List Entry) → stands run.runner entries
    → TakesPart stands next.runner old new (requests_of (Some line ∷ [])) entries)
    → IfSome a (TakesSome stands run next old new)
front_read stands run next None b line old new pops good part = tt
front_read stands run next (Some lines) None line old new pops good part = absurd pops
front_read stands run next (Some lines) (Some left) line old new pops good part =
    let asks = requests_of (Some line ∷ []) in
    let all : requests_of lines ≡ asks ++ requests_of left = ap requests_of pops ∙ requests_first (Some line) left good in (
      length asks,
      λ entries before. subst (λ (xs : List (ℕ × List ℕ)). TakesPart stands next.runner old new xs entries)
          (sym (ap (take (length asks)) all ∙ take-append_seam asks (requests_of left))) (part entries before),
    )

-- nothing was taken
pub front_none : {R : Type 0} (stands : R → List Entry → Type 0) (run next : Run R) (a : Option (List Line))
    (old : Option (List ℕ)) → next.runner ≡ run.runner → IfSome a (TakesSome stands run next old old)
front_none stands run next None old same = tt
front_none stands run next (Some lines) old same = (
  0,
  λ entries before. record {
    more = [];
    stood = subst (stands next.runner) (sym (append-nil entries))
        (subst (λ r. stands r entries) (sym same) before);
    read = tt;
    front = (0, omega arith, Appends-nil old);
  },
)

-- a reply that did not go out stops the run
pub write_stops : {R T : Type 0} (stands : R → List Entry → Type 0) (r : Result T Status) (run next : Run R)
    (old new : Option (List ℕ)) → IsOutputStop r → is_good (Some run.reader.line) ≡ true
    → OnErr r ((entries : List Entry) → stands run.runner entries
    → TakesPart stands next.runner old new (requests_of (Some run.reader.line ∷ [])) entries)
    → IfErr r (StopsLine stands run next old new)
write_stops stands (Ok v) run next old new stop good front = tt
write_stops stands (Err WriteFault) run next old new stop good front = (good, front)
write_stops stands (Err OutOfMemory) run next old new stop good front = (good, front)
write_stops stands (Err status) run next old new stop good front = absurd stop

-- the line that was read stops the run
pub line_stops : {R : Type 0} (stands : R → List Entry → Type 0) (status : Status) (run mid next : Run R)
    (a b old new : Option (List ℕ)) → mid.runner ≡ run.runner
    → mid.reader.number ≡ run.reader.number + 1
    → Pops (lines_left run.reader a) (Some (Some mid.reader.line)) (lines_left mid.reader b)
    → StopsLine stands mid next old new status → StopsNext stands run next a b old new status
line_stops stands (BadLine line) run mid next a b old new same counted pops stops = (
  stops.0 ∙ counted,
  stops.1,
  read_bad (lines_left run.reader a) (lines_left mid.reader b) mid.reader.line pops stops.2,
)
line_stops stands WriteFault run mid next a b old new same counted pops stops =
    front_read stands run next (lines_left run.reader a) (lines_left mid.reader b) mid.reader.line old new pops stops.0
    (λ entries before. stops.1 entries (subst (λ r. stands r entries) (sym same) before))
line_stops stands OutOfMemory run mid next a b old new same counted pops stops =
    front_read stands run next (lines_left run.reader a) (lines_left mid.reader b) mid.reader.line old new pops stops.0
    (λ entries before. stops.1 entries (subst (λ r. stands r entries) (sym same) before))
line_stops stands status run mid next a b old new same counted pops stops = absurd stops
