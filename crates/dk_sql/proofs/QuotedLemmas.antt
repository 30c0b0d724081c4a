-- The bytes of a text are UTF-8: they are pieces that are, with signs between them.
use Rattle.std.proofs.Common.{◌≡◌, ℕ, zero, suc, ◌<◌, ◌+◌, ◌-◌, Bool, true, false, not, ◌==◌, ◌&&◌, nat_lt, List, [], ◌∷◌, ◌++◌, length, take, drop, get_or, Option, Some, None, cond, refl, sym, ap, ◌∙◌, IsUtf8, ◌⊎◌, inl, inr, append_assoc, IfSome, arith, rules}
use Rattle.std.specs.List.{prefix_len, list_all}
use Rattle.std.specs.Str.{is_utf8}
use Rattle.std.proofs.lemmas.Str.{IsUtf8-append, IsUtf8-from_ascii, IsUtf8-from_is_utf8, is_utf8-from_IsUtf8}
use Rattle.std.proofs.lemmas.List.{take-append-drop, length-append}
use Rattle.std.proofs.lemmas.List.Sums.{prefix_len_stops}
use Rattle.std.proofs.Math.Seq.{drop-cons, take-append_seam}
use Rattle.std.proofs.lemmas.Bool.{and_parts, and_from, ltb-true, eqb-true}
use Rattle.dk_sql.specs.Tokens.{is_inside, mark_in, piece_len, behind_piece, behind_pieces, behind_text, single, text_until, text_in}

-- a sign that was tested
is_sign : (b : ℕ) (t : Bool) → (b == 39) ≡ t → is_inside b ≡ not t
is_sign b t e = ap not e

inside_not : (b : ℕ) → is_inside b ≡ true → (b == 39) ≡ false
inside_not b h = by_test (b == 39) h
  where
    by_test : (t : Bool) → not t ≡ true → t ≡ false
    by_test true e = sym e
    by_test false e = refl

outside_is : (b : ℕ) → is_inside b ≡ false → b ≡ 39
outside_is b h = eqb-true b 39 (by_test (b == 39) h)
  where
    by_test : (t : Bool) → not t ≡ false → t ≡ true
    by_test true e = refl
    by_test false e = sym e

-- a piece is kept whole
single_front : (p : List ℕ) → list_all is_inside p ≡ true → single false p ≡ p
single_front [] h = refl
single_front (b ∷ p) h =
    let parts : (is_inside b ≡ true) × (list_all is_inside p ≡ true) = and_parts _ _ h in
    ap (λ t. cond (t && false) (single false p) (b ∷ single t p)) (inside_not b parts.0)
    ∙ ap (λ xs. b ∷ xs) (single_front p parts.1)

-- of the two signs behind a piece the first is kept
single_pair : (p q : List ℕ) → list_all is_inside p ≡ true
    → single false (p ++ 39 ∷ 39 ∷ q) ≡ p ++ 39 ∷ single false q
single_pair [] q h = refl
single_pair (b ∷ p) q h =
    let parts : (is_inside b ≡ true) × (list_all is_inside p ≡ true) = and_parts _ _ h in
    ap (λ t. cond (t && false) (single false (p ++ 39 ∷ 39 ∷ q)) (b ∷ single t (p ++ 39 ∷ 39 ∷ q))) (inside_not b parts.0)
    ∙ ap (λ xs. b ∷ xs) (single_pair p q parts.1)

-- a piece holds no sign
one_inside : (b n : ℕ) (bytes : List ℕ) → is_inside b ≡ true → list_all is_inside (take n bytes) ≡ true
    → list_all is_inside (take (1 + n) (b ∷ bytes)) ≡ true
one_inside b n bytes first others =
    let next : 1 + n ≡ suc n = omega arith in
    ap (λ k. list_all is_inside (take k (b ∷ bytes))) next ∙ and_from _ _ first others

prefix_inside : (bytes : List ℕ) → list_all is_inside (take (prefix_len is_inside bytes) bytes) ≡ true
prefix_inside [] = refl
prefix_inside (b ∷ bytes) = by_test (is_inside b) refl (prefix_inside bytes)
  where
    by_test : (t : Bool) → is_inside b ≡ t → list_all is_inside (take (prefix_len is_inside bytes) bytes) ≡ true
        → list_all is_inside (take (cond t (1 + prefix_len is_inside bytes) 0) (b ∷ bytes)) ≡ true
    by_test true e others = one_inside b (prefix_len is_inside bytes) bytes e others
    by_test false e others = refl

-- what a piece, its sign and the rest are to the bytes
record Cut (bytes p rest : List ℕ) : Type 0 where
  pub inside : list_all is_inside p ≡ true
  pub utf8 : IsUtf8 p
  pub whole : bytes ≡ p ++ 39 ∷ rest

cut_at : (bytes : List ℕ) (n : ℕ) → prefix_len is_inside bytes ≡ n → n < length bytes → is_utf8 (take n bytes) ≡ true
    → Cut bytes (take n bytes) (drop (n + 1) bytes)
cut_at bytes n is within utf8 =
    let sign : get_or bytes n 0 ≡ 39 = outside_is (get_or bytes n 0)
    (rw (sym is) (prefix_len_stops is_inside bytes 0 (omega (arith, is, within)))) in
    let next : suc n ≡ n + 1 = omega arith in
    record {
      inside = rw (sym is) (prefix_inside bytes);
      utf8 = IsUtf8-from_is_utf8 (take n bytes) utf8;
      whole = sym (take-append-drop n bytes)
          ∙ ap (λ r. take n bytes ++ r) (drop-cons bytes n 0 within
          ∙ (ap (λ b. b ∷ drop (suc n) bytes) sign ∙ ap (λ k. 39 ∷ drop k bytes) next));
    }

-- the piece that stands in front, where one does
cut : (bytes : List ℕ) → (piece_len bytes == 0) ≡ false
    → Cut bytes (take (prefix_len is_inside bytes) bytes) (drop (piece_len bytes) bytes)
cut bytes some = by_test (nat_lt (prefix_len is_inside bytes) (length bytes) && is_utf8 (take (prefix_len is_inside bytes) bytes)) refl some
  where
    by_test : (t : Bool)
        → (nat_lt (prefix_len is_inside bytes) (length bytes) && is_utf8 (take (prefix_len is_inside bytes) bytes)) ≡ t
        → (cond t (prefix_len is_inside bytes + 1) 0 == 0) ≡ false
        → Cut bytes (take (prefix_len is_inside bytes) bytes) (drop (cond t (prefix_len is_inside bytes + 1) 0) bytes)
    by_test true e h =
        let parts = and_parts (nat_lt (prefix_len is_inside bytes) (length bytes)) _ e in
        cut_at bytes (prefix_len is_inside bytes) refl (ltb-true _ _ parts.0) parts.1
    by_test false e h = absurd (grind (arith, h))

mark_is : (rest more : List ℕ) → mark_in 39 rest ≡ Some more → rest ≡ 39 ∷ more
mark_is [] more h = absurd (grind (arith, h))
mark_is (b ∷ rest) more h = by_test (b == 39) refl h
  where
    by_test : (t : Bool) → (b == 39) ≡ t → cond t (Some rest) None ≡ Some more → b ∷ rest ≡ 39 ∷ more
    by_test true e h = grind (arith, eqb-true b 39 e, h)
    by_test false e h = absurd (grind (arith, h))

-- the bytes before the last sign, with one sign for each two, are UTF-8
abbrev Closes : List ℕ → List ℕ → Type 0
Closes bytes end = (q : List ℕ) × (bytes ≡ q ++ 39 ∷ end) × IsUtf8 (single false q)

sign_utf8 : IsUtf8 (39 ∷ [])
sign_utf8 = IsUtf8-from_ascii (39 ∷ []) (search rules)

-- the text ends behind this piece
closes_here : (bytes p rest end : List ℕ) → Cut bytes p rest → end ≡ rest → Closes bytes end
closes_here bytes p rest end piece same =
    (p, piece.whole ∙ ap (λ r. p ++ 39 ∷ r) (sym same), rw (single_front p piece.inside) piece.utf8)

-- or behind a later one
closes_later : (bytes p rest more end : List ℕ) → Cut bytes p rest → rest ≡ 39 ∷ more → Closes more end → Closes bytes end
closes_later bytes p rest more end piece sign later = (
  p ++ 39 ∷ 39 ∷ later.0,
  piece.whole ∙ (ap (λ r. p ++ 39 ∷ r) (sign ∙ ap (λ r. 39 ∷ r) later.1)
      ∙ sym (append_assoc p (39 ∷ 39 ∷ later.0) (39 ∷ end))),
  rw (single_pair p later.0 piece.inside)
      (IsUtf8-append p (39 ∷ single false later.0) piece.utf8 (IsUtf8-append (39 ∷ []) (single false later.0) sign_utf8 later.2)),
)

-- the text ends where it did, or behind pieces of these bytes
closes : (turns : ℕ) (closed bytes : List ℕ)
    → (behind_pieces turns closed bytes ≡ closed) ⊎ Closes bytes (behind_pieces turns closed bytes)
closes zero closed bytes = inl refl
closes (suc turns) closed bytes = by_piece (piece_len bytes == 0) refl (closes turns)
  where
    by_mark : (p rest : List ℕ) → Cut bytes p rest → (more : Option (List ℕ)) → mark_in 39 rest ≡ more
        → ((closed bytes : List ℕ) → (behind_pieces turns closed bytes ≡ closed) ⊎ Closes bytes (behind_pieces turns closed bytes))
        → Closes bytes (behind_piece (λ closed bytes. behind_pieces turns closed bytes) rest more)
    by_mark p rest piece None mark others = closes_here bytes p rest rest piece refl
    by_mark p rest piece (Some more) mark others = elim (others rest more) [
      | inl same ↦ closes_here bytes p rest (behind_pieces turns rest more) piece same
      | inr later ↦ closes_later bytes p rest more (behind_pieces turns rest more) piece (mark_is rest more mark) later
    ]

    by_piece : (t : Bool) → (piece_len bytes == 0) ≡ t
        → ((closed bytes : List ℕ) → (behind_pieces turns closed bytes ≡ closed) ⊎ Closes bytes (behind_pieces turns closed bytes))
        → (cond t closed (behind_piece (λ closed bytes. behind_pieces turns closed bytes) (drop (piece_len bytes) bytes)
        (mark_in 39 (drop (piece_len bytes) bytes))) ≡ closed)
        ⊎ Closes bytes (cond t closed (behind_piece (λ closed bytes. behind_pieces turns closed bytes)
        (drop (piece_len bytes) bytes) (mark_in 39 (drop (piece_len bytes) bytes))))
    by_piece true e others = inl refl
    by_piece false e others = inr (by_mark _ _ (cut bytes e) (mark_in 39 (drop (piece_len bytes) bytes)) refl others)

-- what is left behind the text is less than its bytes
kept_utf8 : (bytes rest : List ℕ) → length rest < length bytes → (rest ≡ bytes) ⊎ Closes bytes rest
    → is_utf8 (single false (take (length bytes - length rest - 1) bytes)) ≡ true
kept_utf8 bytes rest less (inl same) = absurd (omega (arith, ap length same, less))
kept_utf8 bytes rest less (inr found) =
    let total : length bytes ≡ length found.0 + suc (length rest) =
    ap length found.1 ∙ length-append found.0 (39 ∷ rest) in
    let count : length bytes - length rest - 1 ≡ length found.0 = omega (arith, total) in
    let kept : take (length bytes - length rest - 1) bytes ≡ found.0 =
    ap (λ n. take n bytes) count
    ∙ (ap (take (length found.0)) found.1 ∙ take-append_seam found.0 (39 ∷ rest)) in
    ap (λ q. is_utf8 (single false q)) kept ∙ is_utf8-from_IsUtf8 (single false found.0) found.2

-- a text that was found is UTF-8
pub text_utf8 : (text : List ℕ) → IfSome (text_in text) (λ found. is_utf8 found.0 ≡ true)
text_utf8 [] = tt
text_utf8 (b ∷ bytes) = by_sign (b == 39)
  where
    by_rest : (t : Bool) → nat_lt (length (behind_text bytes)) (length bytes) ≡ t
        → IfSome {T = List ℕ × List ℕ} (cond t (Some (single false (take (length bytes - length (behind_text bytes) - 1) bytes), behind_text bytes)) None)
        (λ found. is_utf8 found.0 ≡ true)
    by_rest true e = kept_utf8 bytes (behind_text bytes) (ltb-true _ _ e) (closes (length bytes) bytes bytes)
    by_rest false e = tt

    by_sign : (t : Bool) → IfSome {T = List ℕ × List ℕ} (cond t (text_until bytes (behind_text bytes)) None) (λ found. is_utf8 found.0 ≡ true)
    by_sign true = by_rest (nat_lt (length (behind_text bytes)) (length bytes)) refl
    by_sign false = tt
