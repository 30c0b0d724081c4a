-- Where a text ends: behind the last of its pieces.
use Rattle.std.proofs.Common.{◌≡◌, ℕ, zero, suc, ◌<◌, ◌≤◌, ◌-◌, false, ◌==◌, List, length, drop, Option, Some, None, cond, refl, sym, ap, ◌∙◌, arith}
use Rattle.std.proofs.lemmas.List.{length-drop}
use Rattle.dk_sql.specs.Tokens.{mark_in, piece_len, behind_piece, behind_pieces}

-- where the text ends, from an open piece on, in some number of turns that is enough
pub record Ends (closed bytes end : List ℕ) : Type 0 where
  pub turns : ℕ
  pub enough : length bytes ≤ turns
  pub told : behind_pieces turns closed bytes ≡ end

pub ends_start : (bytes : List ℕ) → Ends bytes bytes (behind_pieces (length bytes) bytes bytes)
ends_start bytes = record { turns = length bytes; enough = omega arith; told = refl }

-- what stands behind a piece, or where the pieces before it end
goes : ℕ → List ℕ → ℕ → List ℕ → List ℕ
goes turns closed len bytes =
    cond (len == 0) closed
    (behind_piece (λ closed bytes. behind_pieces turns closed bytes) (drop len bytes) (mark_in 39 (drop len bytes)))

-- no further piece
ended : (closed bytes end : List ℕ) → piece_len bytes ≡ 0 → (turns : ℕ) → behind_pieces turns closed bytes ≡ end
    → closed ≡ end
unfolding goes
ended closed bytes end none zero told = told
ended closed bytes end none (suc turns) told = sym (ap (λ n. goes turns closed n bytes) none) ∙ told

pub ends_here : (closed bytes end : List ℕ) → piece_len bytes ≡ 0 → Ends closed bytes end → closed ≡ end
ends_here closed bytes end none ends = ended closed bytes end none ends.turns ends.told

-- a further piece, and what stands behind it
pub record Piece (bytes end : List ℕ) (more : Option (List ℕ)) : Type 0 where
  pub turns : ℕ
  pub enough : length bytes ≤ suc turns
  pub told : behind_piece (λ closed bytes. behind_pieces turns closed bytes) (drop (piece_len bytes) bytes) more ≡ end

passed : (closed bytes end : List ℕ) (more : Option (List ℕ)) → 0 < piece_len bytes → 0 < length bytes
    → mark_in 39 (drop (piece_len bytes) bytes) ≡ more → (turns : ℕ) → length bytes ≤ turns
    → behind_pieces turns closed bytes ≡ end → Piece bytes end more
passed closed bytes end more some any mark zero enough told = absurd (omega arith)
passed closed bytes end more some any mark (suc turns) enough told =
    let piece : (piece_len bytes == 0) ≡ false = grind arith in
    record {
      turns = turns;
      enough = enough;
      told = sym (ap (behind_piece (λ closed bytes. behind_pieces turns closed bytes) (drop (piece_len bytes) bytes)) mark)
          ∙ (sym (ap (λ b. cond b closed
          (behind_piece (λ closed bytes. behind_pieces turns closed bytes) (drop (piece_len bytes) bytes)
          (mark_in 39 (drop (piece_len bytes) bytes)))) piece) ∙ told);
    }

pub ends_piece : (closed bytes end : List ℕ) (more : Option (List ℕ)) → 0 < piece_len bytes
    → piece_len bytes ≤ length bytes → mark_in 39 (drop (piece_len bytes) bytes) ≡ more
    → Ends closed bytes end → Piece bytes end more
ends_piece closed bytes end more some within mark ends =
    passed closed bytes end more some (omega arith) mark ends.turns ends.enough ends.told

-- a sign ' goes on with the text
pub ends_turn : (closed bytes rest more end : List ℕ) (len : ℕ) → len ≡ piece_len bytes → 0 < len → len ≤ length bytes
    → rest ≡ drop len bytes → mark_in 39 rest ≡ Some more → length more < length rest → Ends closed bytes end
    → Ends rest more end
ends_turn closed bytes rest more end len is some within behind mark shorter ends =
    let first : drop (piece_len bytes) bytes ≡ rest = ap (λ n. drop n bytes) (sym is) ∙ sym behind in
    let piece : Piece bytes end (Some more) = ends_piece closed bytes end (Some more) (omega arith) (omega arith)
    (ap (mark_in 39) first ∙ mark) ends in
    let left : length rest ≡ length bytes - len = ap length behind ∙ length-drop len bytes in
    record {
      turns = piece.turns;
      enough = omega (arith, piece.enough, left);
      told = ap (λ rest. behind_pieces piece.turns rest more) (sym first) ∙ piece.told;
    }

-- anything else ends it
pub ends_behind : (closed bytes rest end : List ℕ) (len : ℕ) → len ≡ piece_len bytes → 0 < len → len ≤ length bytes
    → rest ≡ drop len bytes → mark_in 39 rest ≡ None → Ends closed bytes end → rest ≡ end
ends_behind closed bytes rest end len is some within behind mark ends =
    let first : drop (piece_len bytes) bytes ≡ rest = ap (λ n. drop n bytes) (sym is) ∙ sym behind in
    let piece : Piece bytes end None = ends_piece closed bytes end None (omega arith) (omega arith)
    (ap (mark_in 39) first ∙ mark) ends in
    sym first ∙ piece.told
