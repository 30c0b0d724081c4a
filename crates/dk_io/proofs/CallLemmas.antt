-- A call for the next line, put together from its steps.
use Rattle.std.proofs.Common.{◌≡◌, ℕ, ◌+◌, ◌<◌, ◌≤◌, Bool, true, false, List, [], Option, length, refl, sym, ◌∙◌, ap, subst, arith}
use Rattle.dk_io.specs.Lines.{is_too_long}
use Rattle.dk_io.specs.ReaderState.{ReaderState}
use Rattle.dk_io.specs.LinesLeft.{lines_left}
use Rattle.dk_io.specs.LineMoves.{CountsTo, Fills, Moves, StopsMoving}
use Rattle.dk_io.specs.NextLine.{KeepsLines, HasReason, TellsEnd, CountsOn}
use Rattle.dk_io.specs.LinesGiven.{Passes}
use Rattle.dk_io.specs.declared.lines.LineError.{LineError}
use Rattle.dk_io.specs.declared.lines.LineError.TheVariants.{TooLong, TooMuch, Fault, OutOfMemory}
use Rattle.dk_io.specs.declared.streams.Source.{Ghosts}
use Rattle.dk_io.proofs.ReaderLemmas.{stay_on, long_on, moves_stay, fill_stays, long_left, counts_on, counts_more, same_counts, stays_self}

true_false : true ≡ false → ⊥
true_false e = cc

-- a call that begins has lost no line
pub begins : {S : Type 0} (g : Ghosts S) (first old : ReaderState) (s : S) → old ≡ record first { ended = false }
    → KeepsLines g first old s s
begins g first old s e =
    subst (λ (r : ReaderState). KeepsLines g first r s s) (sym e)
    (record { kept = stays_self (lines_left first (g.left s)); uncounted = refl; going = refl })

-- another piece is held
pub keeps_filled : {S : Type 0} (g : Ghosts S) (first old new : ReaderState) (s a b : S) → KeepsLines g first old s a
    → old.held ≡ [] → Fills g old new a b
    → CountsTo old new old.number (old.taken + length new.held) old.ended → KeepsLines g first new s b
keeps_filled g first old new s a b keeps none fills counts = record {
  kept = stay_on _ _ _ keeps.kept (fill_stays old new (g.left a) (g.left b) none fills.begun fills.bytes);
  uncounted = counts.number ∙ keeps.uncounted;
  going = counts.ended ∙ keeps.going;
}

pub counts_filled : {S : Type 0} (g : Ghosts S) (first old new : ReaderState) (s a b : S) (n : ℕ) (end : Bool)
    → CountsOn g first old s a → Fills g old new a b
    → CountsTo old new n (old.taken + length new.held) end → CountsOn g first new s b
counts_filled g first old new s a b n end on fills counts = record {
  taken = counts_more first.taken old.taken new.taken (g.left s) (g.left a) (g.left b) new.held on.taken counts.taken
      fills.bytes;
  later = omega (arith, on.later, fills.later);
  limit = counts.limit ∙ on.limit;
  total = counts.total ∙ on.total;
}

-- what is held moved to the line that has begun
pub keeps_moved : {S : Type 0} (g : Ghosts S) (first old new : ReaderState) (s a : S) (n : ℕ)
    → KeepsLines g first old s a → Moves old new
    → CountsTo old new old.number n old.ended → KeepsLines g first new s a
keeps_moved g first old new s a n keeps moves counts = record {
  kept = stay_on _ _ _ keeps.kept (moves_stay old new (g.left a) moves);
  uncounted = counts.number ∙ keeps.uncounted;
  going = counts.ended ∙ keeps.going;
}

-- a step that reads nothing
pub counts_stepped : {S : Type 0} (g : Ghosts S) (first old new : ReaderState) (s a : S) (n : ℕ) (end : Bool)
    → CountsOn g first old s a
    → CountsTo old new n old.taken end → CountsOn g first new s a
counts_stepped g first old new s a n end on counts = record {
  taken = counts_on first.taken old.taken new.taken (g.left s) (g.left a) (g.left a) on.taken
      (same_counts old.taken new.taken (g.left a) counts.taken);
  later = on.later;
  limit = counts.limit ∙ on.limit;
  total = counts.total ∙ on.total;
}

-- a line that is past the limit when it is looked at was so before
pub stops_moving : {S : Type 0} (g : Ghosts S) (first old new : ReaderState) (s a : S) (e : LineError)
    → KeepsLines g first old s a → old.limit ≡ first.limit → Moves old new
    → StopsMoving old new e → HasReason g first new s a e
stops_moving g first old new s a (TooLong line) keeps limit moves stops =
    let some : 0 < first.limit = subst (λ k. 0 < k) limit stops.1 in
    let long : is_too_long first.limit new.begun ≡ true = subst (λ k. is_too_long k new.begun ≡ true) limit stops.2 in (
      stops.0 ∙ ap (λ k. k + 1) keeps.uncounted,
      long_on first.limit _ _ keeps.kept
          (long_on first.limit _ _ (moves_stay old new (g.left a) moves)
          (long_left first.limit new (g.left a) some long)),
    )
stops_moving g first old new s a TooMuch keeps limit moves stops = absurd stops
stops_moving g first old new s a Fault keeps limit moves stops = absurd stops
stops_moving g first old new s a OutOfMemory keeps limit moves stops = tt

-- the input goes on
pub goes_on : {S : Type 0} (g : Ghosts S) (old new : ReaderState) (a b : S) (lines : List (Option (List ℕ)))
    → new.ended ≡ false → Passes old new (g.left a) (g.left b) lines → TellsEnd g old new a b lines
goes_on g old new a b lines going passes =
    record { passes = λ _. passes; ended = λ out. absurd (true_false (sym out ∙ going)) }
