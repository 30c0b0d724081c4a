-- The lines that a reader has yet to give, over a step of it.
use Rattle.std.proofs.Common.{◌≡◌, ◌≢◌, ℕ, ◌+◌, ◌<◌, true, List, [], ◌∷◌, ◌++◌, Option, None, Some, length, refl, sym, ◌∙◌, ap, subst, arith, add_assoc, length-append}
use Rattle.std.specs.Io.KnownBytes.{Consumes}
use Rattle.dk_io.specs.Lines.{contents_after, is_too_long}
use Rattle.dk_io.specs.ReaderState.{ReaderState}
use Rattle.dk_io.specs.LinesLeft.{lines_left, Stays, BeginsTooLong, Counts}
use Rattle.dk_io.specs.LineMoves.{Moves}
use Rattle.dk_io.proofs.LineLemmas.{long_begins}

-- a known value that stays twice stays
pub stay_on : {T : Type 0} (a b c : Option T) → Stays a b → Stays b c → Stays a c
stay_on None b c p q = tt
stay_on (Some x) None c p q = absurd p
stay_on (Some x) (Some y) None p q = absurd q
stay_on (Some x) (Some y) (Some z) p q = q ∙ p

-- and too long where that is
pub long_on : (limit : ℕ) (a b : Option (List (Option (List ℕ)))) → Stays a b → BeginsTooLong limit b
    → BeginsTooLong limit a
long_on limit None b p q = tt
long_on limit (Some xs) None p q = absurd p
long_on limit (Some xs) (Some ys) p q = let P : _ = λ w. BeginsTooLong limit (Some w) in subst P p q

pub moves_stay : (old new : ReaderState) (left : Option (List ℕ)) → Moves old new
    → Stays (lines_left old left) (lines_left new left)
moves_stay old new None moves = tt
moves_stay old new (Some text) moves = moves.same text

-- what is read is held
pub fill_stays : (old new : ReaderState) (a b : Option (List ℕ)) → old.held ≡ [] → new.begun ≡ old.begun
    → Consumes a b new.held → Stays (lines_left old a) (lines_left new b)
fill_stays old new None b none same bytes = tt
fill_stays old new (Some xs) None none same bytes = absurd bytes
fill_stays old new (Some xs) (Some ys) none same bytes =
    rw (same, none) (ap (λ w. contents_after old.begun w) (sym bytes))

-- a line that has begun and is past the limit
pub long_left : (limit : ℕ) (reading : ReaderState) (left : Option (List ℕ)) → 0 < limit
    → is_too_long limit reading.begun ≡ true → BeginsTooLong limit (lines_left reading left)
long_left limit reading None some long = tt
long_left limit reading (Some text) some long = long_begins limit reading.begun (reading.held ++ text) some long

pub counts_on : (i j k : ℕ) (a b c : Option (List ℕ)) → Counts i a j b → Counts j b k c → Counts i a k c
counts_on i j k None b c p q = tt
counts_on i j k (Some xs) None c p q = absurd p
counts_on i j k (Some xs) (Some ys) None p q = absurd q
counts_on i j k (Some xs) (Some ys) (Some zs) p q = p ∙ q

-- what is read is counted
pub fill_counts : (i j : ℕ) (a b : Option (List ℕ)) (held : List ℕ) → j ≡ i + length held → Consumes a b held
    → Counts i a j b
fill_counts i j None b held sum bytes = tt
fill_counts i j (Some xs) None held sum bytes = absurd bytes
fill_counts i j (Some xs) (Some ys) held sum bytes =
    rw (sum, bytes, length-append held ys) (sym (add_assoc i (length held) (length ys)))

pub same_counts : (i j : ℕ) (a : Option (List ℕ)) → j ≡ i → Counts i a j a
same_counts i j None same = tt
same_counts i j (Some xs) same = ap (λ n. n + length xs) (sym same)

pub counts_more : (i j k : ℕ) (a b c : Option (List ℕ)) (held : List ℕ) → Counts i a j b → k ≡ j + length held
    → Consumes b c held → Counts i a k c
counts_more i j k a b c held counts sum bytes = counts_on i j k a b c counts (fill_counts j k b c held sum bytes)

pub stays_self : {T : Type 0} (a : Option T) → Stays a a
stays_self None = tt
stays_self (Some x) = refl
