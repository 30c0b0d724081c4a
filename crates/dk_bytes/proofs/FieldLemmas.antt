-- A field behind a cursor.
use Rattle.std.proofs.Common.{◌≡◌, ℕ, ◌+◌, List, ◌++◌, length, take, drop, Ok, nat_lt, false, refl, ap, sym, ◌∙◌, subst, arith, length-append}
use Rattle.std.proofs.lemmas.List.{take_all, take-append-le}
use Rattle.std.proofs.lemmas.Bool.{le-ltb}
use Rattle.std.proofs.Math.Seq.{drop-append_seam}
use Rattle.std.specs.Int.{w64, from_le_bytes}
use Rattle.dk_bytes.specs.Fields.{Place, Passes, number_at}

-- a list of two parts is cut between them
pub front_of : (n : ℕ) (front back : List ℕ) → length front ≡ n → take n (front ++ back) ≡ front
front_of n front back h = take-append-le n front back (omega arith) ∙ take_all n front (omega arith)

pub back_of : (n : ℕ) (front back : List ℕ) → length front ≡ n → drop n (front ++ back) ≡ back
back_of n front back h = subst (λ (k : ℕ). drop k (front ++ back) ≡ back) h (drop-append_seam front back)

pub passes_same : (old new : Place) (bytes word : List ℕ) → Passes old new bytes → length bytes ≡ 8 → word ≡ take 8 bytes → Passes old new word
passes_same old new bytes word p h e =
    let same : word ≡ bytes = e ∙ take_all 8 bytes (omega arith) in
    subst (λ (w : List ℕ). Passes old new w) (sym same) p

pub reads_number : (old new : Place) (bytes : List ℕ) (v : ℕ) → Passes old new bytes → length bytes ≡ 8 → v ≡ from_le_bytes w64 bytes → number_at w64 old ≡ Ok (v, new)
reads_number old new bytes v p h e =
    let long : nat_lt (length old.rest) 8 ≡ false = le-ltb (length old.rest) 8 (omega (arith, simp length-append at (ap length p.rest))) in
    let front : take 8 old.rest ≡ bytes = ap (take 8) p.rest ∙ front_of 8 bytes new.rest h in
    let back : drop 8 old.rest ≡ new.rest = ap (drop 8) p.rest ∙ back_of 8 bytes new.rest h in
    let place : old.at + 8 ≡ new.at = omega arith in
    rw (long, front, back, place, e) refl
