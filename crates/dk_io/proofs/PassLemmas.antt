-- What the bytes given so far ended, over the steps of a call.
use Rattle.std.proofs.Common.{◌≡◌, ℕ, false, List, [], ◌++◌, Option, None, Some, refl, sym, ◌∙◌, ap, append_assoc}
use Rattle.std.specs.Io.KnownBytes.{Consumes}
use Rattle.std.proofs.KnownBytes.{Consumes-nil, Consumes-trans}
use Rattle.dk_io.specs.Lines.{contents_after}
use Rattle.dk_io.specs.ReaderState.{ReaderState}
use Rattle.dk_io.specs.LinesLeft.{answer_content, Pops}
use Rattle.dk_io.specs.LineMoves.{Moves, EndsLine}
use Rattle.dk_io.specs.LinesGiven.{one_line, Passes}
use Rattle.dk_io.specs.declared.lines.Next.{Next}

pub passes_on : (r s t : ReaderState) (a b c : Option (List ℕ)) (xs ys : List (Option (List ℕ))) → Passes r s a b xs
    → Passes s t b c ys → Passes r t a c (xs ++ ys)
passes_on r s t a b c xs ys p q = record {
  bytes = p.bytes ++ q.bytes;
  given = Consumes-trans a b c p.bytes q.bytes p.given q.given;
  same = λ text.
      ap (λ w. contents_after r.begun (r.held ++ w)) (append_assoc p.bytes q.bytes text)
      ∙ (p.same (q.bytes ++ text)
      ∙ (ap (λ w. xs ++ w) (q.same text) ∙ sym (append_assoc xs ys (contents_after t.begun (t.held ++ text)))));
}

-- what is held moves to the line that has begun
pub passes_moved : (old new : ReaderState) (a : Option (List ℕ)) → Moves old new → Passes old new a a []
passes_moved old new a moves = record { bytes = []; given = Consumes-nil a; same = λ text. sym (moves.same text) }

-- another piece is held
pub passes_filled : (old new : ReaderState) (a b : Option (List ℕ)) → old.held ≡ [] → new.begun ≡ old.begun
    → Consumes a b new.held → Passes old new a b []
passes_filled old new a b none same bytes =
    record { bytes = new.held; given = bytes; same = λ text. rw (same, none) refl }

first_popped : (xs ys : List (Option (List ℕ))) (first : Option (Option (List ℕ))) → Pops (Some xs) first (Some ys)
    → xs ≡ one_line first ++ ys
first_popped xs ys None pops = pops.0 ∙ sym pops.1
first_popped xs ys (Some x) pops = pops

-- a line feed that is held ends a line
pub passes_ended : (old new : ReaderState) (next : Next) (a : Option (List ℕ)) → EndsLine old new next
    → Passes old new a a (one_line (answer_content next new.line))
passes_ended old new next a ends = record {
  bytes = [];
  given = Consumes-nil a;
  same = λ text. first_popped _ _ (answer_content next new.line) (ends.pops (Some text));
}

-- a call that begins has moved nothing
pub moves_from : (first old new : ReaderState) → old ≡ record first { ended = false } → Moves old new → Moves first new
moves_from first old new begun moves =
    record { same = λ text. moves.same text ∙ ap (λ (r : ReaderState). contents_after r.begun (r.held ++ text)) begun }
