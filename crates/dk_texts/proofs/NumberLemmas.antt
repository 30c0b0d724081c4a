-- The text of a number has no mark.
use Rattle.std.proofs.Common.{◌≡◌, ◌==◌, ◌<◌, ◌+◌, ◌%◌, ◌/◌, ℕ, zero, suc, Bool, true, false, List, [], ◌∷◌, ℤ, pos, negsuc, nat_lt, refl, arith}
use Rattle.std.specs.Prelude.{if◌then◌else◌, decimal}
use Rattle.std.specs.Fmt.{digit_glyph, digits_onto, digits, signed_decimal}
use Rattle.std.proofs.lemmas.Bool.{ne_eqb}
use Rattle.dk_texts.specs.Fields.{is_mark, wants_quotes}

no_mark : (b : ℕ) → 44 < b → is_mark b ≡ false
no_mark b above =
    let comma = ne_eqb b 44 (λ e. omega (arith, above, e)) in
    let quote = ne_eqb b 34 (λ e. omega (arith, above, e)) in
    let return = ne_eqb b 13 (λ e. omega (arith, above, e)) in
    let feed = ne_eqb b 10 (λ e. omega (arith, above, e)) in
    rw (comma, quote, return, feed) refl

glyph_by : (t : Bool) (d : ℕ) → is_mark (if t then 48 + d else 87 + d) ≡ false
glyph_by true d = no_mark (48 + d) (omega arith)
glyph_by false d = no_mark (87 + d) (omega arith)

glyph_no_mark : (d : ℕ) → is_mark (digit_glyph false d) ≡ false
glyph_no_mark d = glyph_by (nat_lt d 10) d

either : (t : Bool) (xs ys : List ℕ) → wants_quotes xs ≡ false → wants_quotes ys ≡ false
    → wants_quotes (if t then xs else ys) ≡ false
either true xs ys e f = e
either false xs ys e f = f

before : (b : ℕ) (bytes : List ℕ) → is_mark b ≡ false → wants_quotes bytes ≡ false → wants_quotes (b ∷ bytes) ≡ false
before b bytes e f = rw (e, f) refl

digits_no_mark : (k n : ℕ) (bytes : List ℕ) → wants_quotes bytes ≡ false
    → wants_quotes (digits_onto k 10 false n bytes) ≡ false
digits_no_mark zero n bytes e = e
digits_no_mark (suc k) n bytes e =
    let one = before (digit_glyph false (n % 10)) bytes (glyph_no_mark (n % 10)) e in
    either (n / 10 == 0) _ _ one (digits_no_mark k (n / 10) (digit_glyph false (n % 10) ∷ bytes) one)

decimal_no_mark : (n : ℕ) → wants_quotes (decimal n) ≡ false
unfolding digits
decimal_no_mark n = digits_no_mark 64 n [] refl

pub number_no_mark : (z : ℤ) → wants_quotes (signed_decimal z) ≡ false
number_no_mark (pos n) = decimal_no_mark n
number_no_mark (negsuc n) = before 45 (decimal (suc n)) refl (decimal_no_mark (suc n))
