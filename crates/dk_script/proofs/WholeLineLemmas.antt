-- The lines that are whole in the bytes that a source gave.
use Rattle.std.proofs.Common.{◌≡◌, ℕ, ◌-◌, Bool, true, false, ◌&&◌, ◌==◌, not, List, [], ◌∷◌, ◌++◌, length, take, map, cond, Some, refl, sym, ap, ◌∙◌, arith, length-append}
use Rattle.std.specs.Str.Lines.{strip_carriage_return}
use Rattle.std.proofs.lemmas.List.{map-append, same_from_push}
use Rattle.std.proofs.Math.Seq.{take-append_seam}
use Rattle.dk_io.specs.Lines.{line_content, contents_after, lines_after, lines_of, line_contents}
use Rattle.dk_io.specs.LinesGiven.{Passes}
use Rattle.dk_io.specs.ReaderState.{ReaderState}
use Rattle.dk_script.specs.GrammarLines.{has_no_feed}
use Rattle.dk_script.specs.RunEnds.{bytes_taken, whole_lines}
use Rattle.dk_script.specs.RunState.{start}
use Rattle.dk_script.specs.Script.{Line}
use Rattle.dk_script.proofs.ScriptLineLemmas.{line_on}

-- what a source gave are the bytes in front of what it has left
pub bytes_taken-append : (script bytes rest : List ℕ) → script ≡ bytes ++ rest → bytes_taken script rest ≡ bytes
bytes_taken-append script bytes rest e =
    let size : length (bytes ++ rest) - length rest ≡ length bytes = simp length-append (omega arith) in
    ap (λ s. bytes_taken s rest) e ∙ (ap (λ n. take n (bytes ++ rest)) size ∙ take-append_seam bytes rest)

-- the lines that are whole in a text whose first line has begun
abbrev whole_after : List ℕ → List ℕ → List (List ℕ)
whole_after begun text = cond (has_no_feed text) [] (lines_after begun (whole_lines text))

-- a line feed behind a text ends one line more than these
record EndsOneMore (begun text : List ℕ) (whole : List (List ℕ)) : Type 0 where
  pub last : List ℕ
  pub lines : lines_after begun (text ++ 10 ∷ []) ≡ whole ++ last ∷ []

whole_none : (text : List ℕ) → has_no_feed text ≡ true → whole_lines text ≡ []
whole_none [] e = refl
whole_none (b ∷ text) e = ap (λ t. cond t [] (b ∷ whole_lines text)) e

fresh_by : (text : List ℕ) (t : Bool) → has_no_feed text ≡ t
    → cond t [] (lines_of (whole_lines text)) ≡ lines_of (whole_lines text)
fresh_by text true e = sym (ap lines_of (whole_none text e))
fresh_by text false e = refl

whole_fresh : (text : List ℕ) → whole_after [] text ≡ lines_of (whole_lines text)
whole_fresh text = fresh_by text (has_no_feed text) refl

feed_there : (b : ℕ) (text : List ℕ) → has_no_feed (b ∷ text) ≡ false → (b == 10) ≡ false → has_no_feed text ≡ false
feed_there b text e f = sym (ap (λ t. not t && has_no_feed text) f) ∙ e

by_feed : (b : ℕ) (text begun : List ℕ) (t f : Bool) → has_no_feed (b ∷ text) ≡ t → (b == 10) ≡ f
    → EndsOneMore [] text (whole_after [] text)
    → EndsOneMore (begun ++ b ∷ []) text (whole_after (begun ++ b ∷ []) text)
    → EndsOneMore begun (b ∷ text) (cond t [] (lines_after begun (whole_lines (b ∷ text))))
by_feed b text begun true f e g fresh on =
    record { last = strip_carriage_return (begun ++ b ∷ text); lines = line_on (b ∷ text) begun (10 ∷ []) e }
by_feed b text begun false true e g fresh on = record {
  last = fresh.last;
  lines =
      ap (λ t. cond t (strip_carriage_return begun ∷ lines_after [] (text ++ 10 ∷ []))
      (lines_after (begun ++ b ∷ []) (text ++ 10 ∷ []))) g
      ∙ (ap (λ xs. strip_carriage_return begun ∷ xs) fresh.lines
      ∙ (ap (λ xs. strip_carriage_return begun ∷ (xs ++ fresh.last ∷ [])) (whole_fresh text)
      ∙ ap (λ xs. xs ++ fresh.last ∷ [])
      (sym (ap (λ t. cond t (strip_carriage_return begun ∷ lines_after [] (whole_lines text))
      (lines_after (begun ++ b ∷ []) (whole_lines text))) g)
      ∙ sym (ap (λ t. lines_after begun (cond t [] (b ∷ whole_lines text))) e))));
}
by_feed b text begun false false e g fresh on = record {
  last = on.last;
  lines =
      ap (λ t. cond t (strip_carriage_return begun ∷ lines_after [] (text ++ 10 ∷ []))
      (lines_after (begun ++ b ∷ []) (text ++ 10 ∷ []))) g
      ∙ (on.lines
      ∙ (ap (λ t. cond t [] (lines_after (begun ++ b ∷ []) (whole_lines text)) ++ on.last ∷ []) (feed_there b text e g)
      ∙ ap (λ xs. xs ++ on.last ∷ [])
      (sym (ap (λ t. cond t (strip_carriage_return begun ∷ lines_after [] (whole_lines text))
      (lines_after (begun ++ b ∷ []) (whole_lines text))) g)
      ∙ sym (ap (λ t. lines_after begun (cond t [] (b ∷ whole_lines text))) e))));
}

ends_one_more : (text begun : List ℕ) → EndsOneMore begun text (whole_after begun text)
ends_one_more [] begun = record { last = strip_carriage_return begun; lines = refl }
ends_one_more (b ∷ text) begun =
    by_feed b text begun (has_no_feed (b ∷ text)) (b == 10) refl refl (ends_one_more text [])
    (ends_one_more text (begun ++ b ∷ []))

-- the lines of a text with a line feed behind it are those that are whole in it, and one more
lines_and_feed : (bytes : List ℕ) (more : EndsOneMore [] bytes (whole_after [] bytes))
    → line_contents (bytes ++ 10 ∷ []) ≡ line_contents (whole_lines bytes) ++ line_content more.last ∷ []
lines_and_feed bytes more =
    ap (map line_content) more.lines
    ∙ (ap (λ xs. map line_content (xs ++ more.last ∷ [])) (whole_fresh bytes)
    ∙ map-append line_content (lines_of (whole_lines bytes)) (more.last ∷ []))

whole_given : (bytes begun held : List ℕ) (lines : List Line) → held ≡ []
    → line_contents (bytes ++ 10 ∷ []) ≡ lines ++ contents_after begun (held ++ 10 ∷ [])
    → line_contents (whole_lines bytes) ≡ lines
whole_given bytes begun held lines none same =
    let more = ends_one_more bytes [] in
    let ends : line_contents (whole_lines bytes) ++ line_content more.last ∷ [] ≡ lines ++ line_content
    (strip_carriage_return begun) ∷ [] =
    sym (lines_and_feed bytes more) ∙ (same ∙ ap (λ xs. lines ++ contents_after begun (xs ++ 10 ∷ [])) none) in
    (same_from_push (line_contents (whole_lines bytes)) lines (line_content more.last)
    (line_content (strip_carriage_return begun)) ends).0

-- where a source failed, the lines so far are those that are whole in what it gave
pub lines_whole : (next : ReaderState) (script rest : List ℕ) (lines : List Line)
    → Passes start next (Some script) (Some rest) lines → next.held ≡ []
    → line_contents (whole_lines (bytes_taken script rest)) ≡ lines
lines_whole next script rest lines passes none =
    ap (λ bytes. line_contents (whole_lines bytes)) (bytes_taken-append script passes.bytes rest passes.given)
    ∙ whole_given passes.bytes next.begun next.held lines none (passes.same (10 ∷ []))
