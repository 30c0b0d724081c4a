-- How far a run has come.
use Rattle.std.proofs.Common.{◌≡◌, ℕ, ◌+◌, ◌<◌, true, false, List, [], ◌∷◌, ◌++◌, length, take, Option, Some, None, cond, refl, sym, ap, subst, ◌∙◌, append_assoc, length-append, arith}
use Rattle.std.specs.Prelude.{not, ◌&&◌, Ok, Err}
use Rattle.std.specs.List.{list_all}
use Rattle.std.proofs.Math.Seq.{take-append_seam, take-append-add}
use Rattle.std.proofs.lemmas.List.{append-nil}
use Rattle.std.proofs.KnownBytes.{Appends-nil, Appends-trans, Consumes-nil}
use Rattle.std.specs.Io.KnownBytes.{Appends}
use Rattle.dk_io.specs.Sinks.{TakesFront}
use Rattle.dk_io.specs.Lines.{contents_after, line_contents}
use Rattle.dk_io.specs.LinesGiven.{Passes}
use Rattle.dk_io.specs.ReaderState.{ReaderState}
use Rattle.dk_io.specs.LinesLeft.{Counts}
use Rattle.dk_io.proofs.PassLemmas.{passes_on}
use Rattle.dk_types.specs.declared.status.Status.{Status}
use Rattle.dk_types.specs.declared.status.Status.TheVariants.{Done, Usage, BadLine, ReadFault, WriteFault, DiskFault, NotADatabase, VersionUnknown, Damaged, OutOfMemory, ScriptTooLong}
use Rattle.dk_si.specs.declared.history.Entry.{Entry}
use Rattle.dk_si.specs.Laws.{state_after}
use Rattle.dk_si.specs.Machine.{first_state}
use Rattle.dk_alone.specs.AnswerHistory.{calls_of}
use Rattle.dk_script.specs.Calls.{AreRead}
use Rattle.dk_script.specs.Histories.{history_text, trouble_after}
use Rattle.dk_script.specs.LineSteps.{IfBothKnown, GoesOn, TakesPart, TakesSome, AnswersNext, BeginsBad, FailsWithin, StopsNext, EndsHere}
use Rattle.dk_script.specs.RunEnds.{Ending, Answers, AnswersFirst, IsTooLongScript, bytes_taken, whole_lines, Replies}
use Rattle.dk_script.specs.RunnerCalls.{IsWhole}
use Rattle.dk_script.specs.RunState.{start}
use Rattle.dk_script.specs.Script.{Line, is_good, requests_of, script_requests, first_bad_from}
use Rattle.dk_script.specs.declared.run.Run.{Run}
use Rattle.dk_script.specs.declared.run.TheConstants.{MAX_SCRIPT}
use Rattle.dk_script.specs.declared.trouble.Trouble.{Trouble}
use Rattle.dk_script.specs.declared.trouble.Trouble.TheVariants.{Nothing}
use Rattle.dk_script.proofs.FrontLemmas.{front_after}
use Rattle.dk_script.proofs.HistoryLemmas.{text_append, calls_append, trouble_append, read_append}
use Rattle.dk_script.proofs.ScriptLemmas.{first_bad_append, all_append, requests_append, requests_bad}
use Rattle.dk_script.proofs.WholeLineLemmas.{lines_whole}

module _ {R : Type 0} (stands : R → List Entry → Type 0) where
  -- some lines of a script were answered, and the others are left
  pub record Progress (run : Run R) (old new : Option (List ℕ)) (script rest : List ℕ) : Type 0 where
    pub lines : List Line
    pub split : line_contents script ≡ lines ++ contents_after run.reader.begun (run.reader.held ++ rest)
    pub passes : run.reader.ended ≡ false → Passes start run.reader (Some script) (Some rest) lines
    pub good : list_all is_good lines ≡ true
    pub count : run.reader.number ≡ length lines
    pub goes : GoesOn stands run.runner Nothing run.trouble old new (requests_of lines) []

  nothing_more : (runner : R) (old : Option (List ℕ)) (trouble : Trouble) → stands runner []
      → trouble ≡ Nothing → GoesOn stands runner Nothing trouble old old [] []
  nothing_more runner old trouble begins none =
      record { more = []; stood = begins; read = tt; taken = Appends-nil old; trouble = none }

  starts : (run : Run R) (old : Option (List ℕ)) (script : List ℕ) → run.reader ≡ start → stands run.runner []
      → run.trouble ≡ Nothing → Progress run old old script script
  starts run old script reader begins done = record {
    lines = [];
    split = sym (ap (λ (r : ReaderState). contents_after r.begun (r.held ++ script)) reader);
    passes = λ _. record {
      bytes = [];
      given = Consumes-nil (Some script);
      same =
          λ text. sym (ap (λ (r : ReaderState). contents_after r.begun (r.held ++ text)) reader);
    };
    good = refl;
    count = ap (λ (r : ReaderState). r.number) reader;
    goes = nothing_more run.runner old run.trouble begins done;
  }

  pub progress_start : (run : Run R) (old a : Option (List ℕ)) → run.reader ≡ start → stands run.runner []
      → run.trouble ≡ Nothing → IfBothKnown a a (Progress run old old)
  progress_start run old None reader begins done = tt
  progress_start run old (Some script) reader begins done = starts run old script reader begins done

  -- what went on goes on further
  goes_further : (mid next : R) (a b c : Trouble) (old now new : Option (List ℕ)) (asks more : List (ℕ × List ℕ))
      → (first : GoesOn stands mid a b old now asks []) → GoesOn stands next b c now new more first.more
      → GoesOn stands next a c old new (asks ++ more) []
  goes_further mid next a b c old now new asks more first second = record {
    more = first.more ++ second.more;
    stood = second.stood;
    read = subst (AreRead (asks ++ more)) (sym (calls_append first.more second.more))
        (read_append asks more (calls_of first.more) (calls_of second.more) first.read second.read);
    taken = subst (Appends old new) (sym (text_append first.more second.more first_state))
        (Appends-trans old now new (history_text first_state first.more)
        (history_text (state_after [] first_state first.more) second.more) first.taken second.taken);
    trouble = second.trouble ∙ (ap (λ (t : Trouble). trouble_after t second.more) first.trouble
        ∙ sym (trouble_append first.more second.more a));
  }

  goes_on : (run next : Run R) (old now new : Option (List ℕ)) (script rest left : List ℕ)
      → Progress run old now script rest → AnswersNext stands run next (Some rest) (Some left) now new
      → Progress next old new script left
  goes_on run next old now new script rest left progress step =
      let lines = progress.lines in
      let answers = step.answers in
      record {
        lines = lines ++ step.line ∷ [];
        split = progress.split
            ∙ (ap (λ xs. lines ++ xs) step.pops
            ∙ sym (append_assoc lines (step.line ∷ [])
            (contents_after next.reader.begun (next.reader.held ++ left))));
        passes = λ going. passes_on start run.reader next.reader (Some script) (Some rest) (Some left) lines
            (step.line ∷ []) (progress.passes step.going) (step.passes going);
        good = all_append lines (step.line ∷ []) progress.good ∙ ap (λ b. b && true) answers.good;
        count = step.counted ∙ simp length-append (omega (arith, progress.count));
        goes = subst (λ (xs : List (ℕ × List ℕ)). GoesOn stands next.runner Nothing next.trouble old new xs [])
            (sym (requests_append lines (step.line ∷ []) progress.good))
            (goes_further run.runner next.runner Nothing run.trouble next.trouble old now new (requests_of lines)
            (requests_of (step.line ∷ [])) progress.goes (answers.goes progress.goes.more progress.goes.stood));
      }

  -- another line was answered
  pub progress_more : (run next : Run R) (old now new a b c : Option (List ℕ))
      → IfBothKnown a b (Progress run old now)
      → AnswersNext stands run next b c now new → IfBothKnown a c (Progress next old new)
  progress_more run next old now new None b c progress step = tt
  progress_more run next old now new (Some script) None c progress step = absurd progress
  progress_more run next old now new (Some script) (Some rest) None progress step = absurd step.pops
  progress_more run next old now new (Some script) (Some rest) (Some left) progress step =
      goes_on run next old now new script rest left progress step

  module _ (legal : (runner : R) (entries : List Entry) → stands runner entries → IsWhole entries) where
    answered : (runner : R) (a b : Trouble) (old new : Option (List ℕ)) (asks : List (ℕ × List ℕ))
        → (goes : GoesOn stands runner a b old new asks [])
        → Answers asks (history_text first_state goes.more) goes.more
    answered runner a b old new asks goes =
        record { whole = legal runner goes.more goes.stood; read = goes.read; printed = refl }

    -- no line is left: all were good, and answered
    read_out : (run : Run R) (old new : Option (List ℕ)) (script rest left : List ℕ)
        → Progress run old new script rest
        → contents_after run.reader.begun (run.reader.held ++ rest) ≡ [] → left ≡ []
        → Replies (Ok run.trouble) script left old new
    read_out run old new script rest left progress none out =
        let lines = progress.lines in
        let goes = progress.goes in
        let all : line_contents script ≡ lines = progress.split
        ∙ (ap (λ xs. lines ++ xs) none ∙ append-nil lines) in
        record {
          text = history_text first_state goes.more;
          due = (
            out,
            ap (first_bad_from 1) (all ∙ sym (append-nil lines))
                ∙ first_bad_append lines [] 1 progress.good,
            (
              goes.more,
              subst (λ (xs : List Line). Answers (requests_of xs) (history_text first_state goes.more) goes.more)
                  (sym all) (answered run.runner Nothing run.trouble old new (requests_of lines) goes),
              goes.trouble,
            ),
          );
          sent = goes.taken;
        }

    still_as : (ending : Ending) (script left : List ℕ) (old now new : Option (List ℕ)) → new ≡ now
        → Replies ending script left old now → Replies ending script left old new
    still_as ending script left old now new still replies =
        subst (λ (t : Option (List ℕ)). Replies ending script left old t) (sym still) replies

    trouble_as : (script left : List ℕ) (old new : Option (List ℕ)) (trouble other : Trouble) → other ≡ trouble
        → Replies (Ok trouble) script left old new → Replies (Ok other) script left old new
    trouble_as script left old new trouble other same replies =
        subst (λ (t : Trouble). Replies (Ok t) script left old new) (sym same) replies

    pub progress_end : (run next : Run R) (old now new a b c : Option (List ℕ))
        → IfBothKnown a b (Progress run old now) → EndsHere run next b c now new
        → IfBothKnown a c (λ script rest. Replies (Ok next.trouble) script rest old new)
    progress_end run next old now new None b c progress ends = tt
    progress_end run next old now new (Some script) None c progress ends = absurd progress
    progress_end run next old now new (Some script) (Some rest) None progress ends = absurd ends.left
    progress_end run next old now new (Some script) (Some rest) (Some left) progress ends =
        trouble_as script left old new run.trouble next.trouble ends.trouble
        (still_as (Ok run.trouble) script left old now new ends.still
        (read_out run old now script rest left progress ends.left.0 ends.left.1))

    bad_left : (lines left : List Line) (line : ℕ) → list_all is_good lines ≡ true → line ≡ length lines + 1
        → BeginsBad left
        → (first_bad_from 1 (lines ++ left) ≡ Some line)
        × (requests_of (lines ++ left) ≡ requests_of lines)
    bad_left lines [] line good number bad = absurd bad
    bad_left lines (first ∷ left) line good number bad =
        let same : 1 + length lines ≡ line = omega (arith, number) in (
          first_bad_append lines (first ∷ left) 1 good
              ∙ (ap (λ b. cond (not b) (Some (1 + length lines)) (first_bad_from (1 + length lines + 1) left)) bad
              ∙ ap Some same),
          requests_append lines (first ∷ left) good
              ∙ (ap (λ xs. requests_of lines ++ xs) (requests_bad first left bad)
              ∙ append-nil (requests_of lines)),
        )

    -- the next line is bad
    stops_bad : (run : Run R) (old new : Option (List ℕ)) (script rest left : List ℕ) (line : ℕ)
        → Progress run old new script rest → line ≡ run.reader.number + 1
        → BeginsBad (contents_after run.reader.begun (run.reader.held ++ rest))
        → Replies (Err (BadLine line)) script left old new
    stops_bad run old new script rest left line progress number bad =
        let lines = progress.lines in
        let goes = progress.goes in
        let parts = bad_left lines (contents_after run.reader.begun (run.reader.held ++ rest)) line progress.good
        (number ∙ ap (λ n. n + 1) progress.count) bad in
        record {
          text = history_text first_state goes.more;
          due = (
            ap (first_bad_from 1) progress.split ∙ parts.0,
            goes.more,
            subst (λ (xs : List (ℕ × List ℕ)). Answers xs (history_text first_state goes.more) goes.more)
                (sym (ap requests_of progress.split ∙ parts.1))
                (answered run.runner Nothing run.trouble old new (requests_of lines) goes),
          );
          sent = goes.taken;
        }

    -- the source failed
    stops_reading : (run next : Run R) (old new : Option (List ℕ)) (script rest left : List ℕ)
        → Progress run old new script rest → FailsWithin run.reader next.reader (Some rest) (Some left)
        → Replies (Err ReadFault) script left old new
    stops_reading run next old new script rest left progress fails =
        let lines = progress.lines in
        let goes = progress.goes in
        let passes : Passes start next.reader (Some script) (Some left) (lines ++ []) =
        passes_on start run.reader next.reader (Some script) (Some rest) (Some left) lines []
        (progress.passes fails.going) fails.passes in
        let whole : line_contents (whole_lines (bytes_taken script left)) ≡ lines =
        lines_whole next.reader script left (lines ++ []) passes fails.held ∙ append-nil lines in
        record {
          text = history_text first_state goes.more;
          due = (
            ap (first_bad_from 1) (whole ∙ sym (append-nil lines)) ∙ first_bad_append lines [] 1 progress.good,
            goes.more,
            subst (λ (xs : List Line). Answers (requests_of xs) (history_text first_state goes.more) goes.more)
                (sym whole) (answered run.runner Nothing run.trouble old new (requests_of lines) goes),
          );
          sent = goes.taken;
        }

    first_asked : (run : Run R) (old new : Option (List ℕ)) (script rest : List ℕ)
        → (progress : Progress run old new script rest)
        → script_requests script ≡ requests_of progress.lines
        ++ requests_of (contents_after run.reader.begun (run.reader.held ++ rest))
    first_asked run old new script rest progress =
        ap requests_of progress.split
        ∙ requests_append progress.lines (contents_after run.reader.begun (run.reader.held ++ rest)) progress.good

    -- the script is too long
    stops_long : (run : Run R) (old new : Option (List ℕ)) (script rest left : List ℕ)
        → Progress run old new script rest → Replies (Err ScriptTooLong) script left old new
    stops_long run old new script rest left progress =
        let lines = progress.lines in
        let goes = progress.goes in
        let others = contents_after run.reader.begun (run.reader.held ++ rest) in
        let n = length (requests_of lines) in
        record {
          text = history_text first_state goes.more;
          due = (
            n,
            (
              goes.more,
              subst (λ (xs : List (ℕ × List ℕ)). Answers xs (history_text first_state goes.more) goes.more)
                  (sym (ap (take n) (first_asked run old new script rest progress)
                  ∙ take-append_seam (requests_of lines) (requests_of others)))
                  (answered run.runner Nothing run.trouble old new (requests_of lines) goes),
            ),
          );
          sent = goes.taken;
        }

    -- a front of a history's text was taken
    pub record Fronts (script : List ℕ) (old new : Option (List ℕ)) : Type 0 where
      pub asks : ℕ
      pub all : List ℕ
      pub first : AnswersFirst asks (script_requests script) all
      pub front : TakesFront old new all

    fronts_by : (run next : Run R) (old now new : Option (List ℕ)) (script rest : List ℕ) (n : ℕ)
        → (progress : Progress run old now script rest)
        → TakesPart stands next.runner now new
        (take n (requests_of (contents_after run.reader.begun (run.reader.held ++ rest)))) progress.goes.more
        → Fronts script old new
    fronts_by run next old now new script rest n progress part =
        let lines = progress.lines in
        let goes = progress.goes in
        let others = contents_after run.reader.begun (run.reader.held ++ rest) in
        let asks = length (requests_of lines) + n in
        let all = history_text first_state (goes.more ++ part.more) in
        let text : all ≡ history_text first_state goes.more
        ++ history_text (state_after [] first_state goes.more) part.more =
        text_append goes.more part.more first_state in
        let same : take asks (script_requests script) ≡ requests_of lines ++ take n (requests_of others) =
        ap (take asks) (first_asked run old now script rest progress)
        ∙ take-append-add (requests_of lines) (requests_of others) n in
        record {
          asks = asks;
          all = all;
          first = (
            goes.more ++ part.more,
            record {
              whole = legal next.runner (goes.more ++ part.more) part.stood;
              read = subst (λ (xs : List (ℕ × List ℕ)). AreRead xs (calls_of (goes.more ++ part.more))) (sym same)
                  (subst (AreRead (requests_of lines ++ take n (requests_of others)))
                  (sym (calls_append goes.more part.more))
                  (read_append (requests_of lines) (take n (requests_of others)) (calls_of goes.more)
                  (calls_of part.more) goes.read part.read));
              printed = refl;
            },
          );
          front = subst (TakesFront old new) (sym text)
              (front_after old now new (history_text first_state goes.more)
              (history_text (state_after [] first_state goes.more) part.more) goes.taken part.front);
        }

    fronts : (run next : Run R) (old now new : Option (List ℕ)) (script rest : List ℕ)
        → Progress run old now script rest
        → TakesSome stands run next now new (contents_after run.reader.begun (run.reader.held ++ rest))
        → Fronts script old new
    fronts run next old now new script rest progress some =
        fronts_by run next old now new script rest some.0 progress
        (some.1 progress.goes.more progress.goes.stood)

    stops_writing : (old new : Option (List ℕ)) (script left : List ℕ) → Fronts script old new
        → Replies (Err WriteFault) script left old new
    stops_writing old new script left f =
        record {
          text = take f.front.0 f.all;
          due = (f.asks, f.front.0, f.all, f.first, refl);
          sent = f.front.2;
        }

    stops_wanting : (old new : Option (List ℕ)) (script left : List ℕ) → Fronts script old new
        → Replies (Err OutOfMemory) script left old new
    stops_wanting old new script left f =
        record {
          text = take f.front.0 f.all;
          due = (f.asks, f.front.0, f.all, f.first, refl);
          sent = f.front.2;
        }

    stops_by : (status : Status) (run next : Run R) (old now new : Option (List ℕ)) (script rest left : List ℕ)
        → Progress run old now script rest → StopsNext stands run next (Some rest) (Some left) now new status
        → Replies (Err status) script left old new
    stops_by (BadLine line) run next old now new script rest left progress stops =
        still_as (Err (BadLine line)) script left old now new stops.1
        (stops_bad run old now script rest left line progress stops.0 stops.2)
    stops_by ReadFault run next old now new script rest left progress stops =
        still_as (Err ReadFault) script left old now new stops.0
        (stops_reading run next old now script rest left progress stops.1)
    stops_by ScriptTooLong run next old now new script rest left progress stops =
        still_as (Err ScriptTooLong) script left old now new stops
        (stops_long run old now script rest left progress)
    stops_by WriteFault run next old now new script rest left progress stops =
        stops_writing old new script left (fronts run next old now new script rest progress stops)
    stops_by OutOfMemory run next old now new script rest left progress stops =
        stops_wanting old new script left (fronts run next old now new script rest progress stops)
    stops_by status run next old now new script rest left progress stops = absurd stops

    -- a line stopped the run
    pub progress_stop : (status : Status) (run next : Run R) (n m : ℕ) (old now new a b c : Option (List ℕ))
        → Counts n b m c → IfBothKnown a b (Progress run old now) → StopsNext stands run next b c now new status
        → IfBothKnown a c (λ script rest. Replies (Err status) script rest old new)
    progress_stop status run next n m old now new None b c counts progress stops = tt
    progress_stop status run next n m old now new (Some script) None c counts progress stops = absurd progress
    progress_stop status run next n m old now new (Some script) (Some rest) None counts progress stops =
        absurd counts
    progress_stop status run next n m old now new (Some script) (Some rest) (Some left) counts progress stops =
        stops_by status run next old now new script rest left progress stops

-- there was no memory before the first line
pub replies_none : (old a : Option (List ℕ))
    → IfBothKnown a a (λ script rest. Replies (Err OutOfMemory) script rest old old)
replies_none old None = tt
replies_none old (Some script) = record {
  text = [];
  due = (0, 0, [], ([], record { whole = record { legal = refl; answered = refl }; read = tt; printed = refl }), refl);
  sent = Appends-nil old;
}

-- and no script was too long
pub none_too_long : (a : Option (List ℕ)) → IfBothKnown a a (IsTooLongScript OutOfMemory)
none_too_long None = tt
none_too_long (Some script) = (λ e. absurd (cc e), λ (h : MAX_SCRIPT + length script < length script). absurd (omega (arith, h)))
