-- Parts that are appended one behind the other.
use Rattle.std.proofs.Common.{◌≡◌, ℕ, List, ◌++◌, length, take, drop, ap, sym, ◌∙◌, append_assoc, arith}
use Rattle.std.proofs.lemmas.List.{take_all, take-append-le, take-append-drop}

pub three_joined : (out a b c out1 out2 out3 : List ℕ) → out1 ≡ out ++ a → out2 ≡ out1 ++ b → out3 ≡ out2 ++ c → out3 ≡ out ++ (a ++ (b ++ c))
three_joined out a b c out1 out2 out3 p q r = r ∙ rw (q, p) (append_assoc (out ++ a) b c ∙ append_assoc out a (b ++ c))

-- bytes that were there stay in front
pub kept_in_front : (old more : List ℕ) → take (length old) (old ++ more) ≡ old
kept_in_front old more = take-append-le (length old) old more (omega arith) ∙ take_all (length old) old (omega arith)

pub kept_then : (old mid new : List ℕ) → take (length old) mid ≡ old → take (length mid) new ≡ mid → take (length old) new ≡ old
kept_then old mid new h k =
    let whole : new ≡ mid ++ drop (length mid) new = sym (take-append-drop (length mid) new) ∙ ap (λ (xs : List ℕ). xs ++ drop (length mid) new) k in
    let front : mid ≡ old ++ drop (length old) mid = sym (take-append-drop (length old) mid) ∙ ap (λ (xs : List ℕ). xs ++ drop (length old) mid) h in
    let both : new ≡ old ++ (drop (length old) mid ++ drop (length mid) new) =
    whole ∙ ap (λ (xs : List ℕ). xs ++ drop (length mid) new) front ∙ append_assoc old (drop (length old) mid) (drop (length mid) new) in
    ap (take (length old)) both ∙ kept_in_front old (drop (length old) mid ++ drop (length mid) new)

-- two fields that were appended, and what was appended behind them
pub kept_behind : (old a b out1 out2 out3 : List ℕ) → out1 ≡ old ++ a → out2 ≡ out1 ++ b → take (length out2) out3 ≡ out2 → take (length old) out3 ≡ old
kept_behind old a b out1 out2 out3 p q k =
    let both : out2 ≡ old ++ (a ++ b) = q ∙ ap (λ (xs : List ℕ). xs ++ b) p ∙ append_assoc old a b in
    kept_then old out2 out3 (ap (take (length old)) both ∙ kept_in_front old (a ++ b)) k
