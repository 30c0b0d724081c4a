-- The lines of a text that comes in parts.
use Rattle.std.proofs.Common.{◌≡◌, ◌≢◌, ℕ, suc, ◌+◌, ◌-◌, ◌<◌, ◌≤◌, Bool, true, false, cond, List, [], ◌∷◌, ◌++◌, None, Some, length, take, drop, map, refl, sym, ◌∙◌, ap, append_assoc, arith, inl, inr, length-append}
use Rattle.std.specs.Prelude.{All, ◌==◌, if◌then◌else◌}
use Rattle.std.specs.Str.Lines.{strip_carriage_return}
use Rattle.std.proofs.lemmas.Bool.{and_parts, eqb-true, ne_eqb, ltb-true, lt-ltb, cases_Bool, false≢true}
use Rattle.std.proofs.lemmas.List.{append-nil, take-append-drop, length-take-le}
use Rattle.std.proofs.lemmas.List.Elements.{All-get_or, All-drop}
use Rattle.dk_io.specs.Lines.{lines_after, is_comment, line_content, contents_after, kept_part, is_too_long}
use Rattle.dk_io.specs.LinesLeft.{BeginsTooLong}

-- the first test fails and the second passes
not_first : (v w : Bool) → cond v false w ≡ true → (v ≡ false) × (w ≡ true)
not_first true w h = absurd (false≢true h)
not_first false w h = (refl, h)

-- bytes without a line feed go to the line that has begun
pub lines_move : (part begun text : List ℕ) → All (λ b. b ≢ 10) part
    → lines_after begun (part ++ text) ≡ lines_after (begun ++ part) text
lines_move [] begun text none = ap (λ w. lines_after w text) (sym (append-nil begun))
lines_move (b ∷ part) begun text none =
    let e : (b == 10) ≡ false = ne_eqb b 10 (All-get_or (λ b. b ≢ 10) (b ∷ part) 0 0 (omega arith) none) in
    rw e (lines_move part (begun ++ b ∷ []) text (All-drop (λ b. b ≢ 10) 1 (b ∷ part) none)
    ∙ ap (λ w. lines_after w text) (append_assoc begun (b ∷ []) part))

-- a comment by its dashes
comment_is : (line : List ℕ) → is_comment line ≡ true → line ≡ 45 ∷ 45 ∷ drop 2 line
comment_is [] h = absurd (false≢true h)
comment_is (a ∷ []) h = absurd (false≢true h)
comment_is (a ∷ c ∷ line) h =
    let two = and_parts (a == 45) (c == 45) h in
    ap (λ n. n ∷ c ∷ line) (eqb-true a 45 two.0) ∙ ap (λ n. 45 ∷ n ∷ line) (eqb-true c 45 two.1)

-- of two comments either is passed over
either_comment : (v : Bool) (x y : List ℕ) → line_content (cond v (45 ∷ 45 ∷ x) (45 ∷ 45 ∷ y)) ≡ None
either_comment true x y = refl
either_comment false x y = refl

-- a comment has no content
comment_content : (line : List ℕ) → line_content (strip_carriage_return (45 ∷ 45 ∷ line)) ≡ None
comment_content [] = refl
comment_content (a ∷ line) =
    let e : length (45 ∷ 45 ∷ a ∷ line) - 1 ≡ suc (suc (length line)) = omega arith in
    rw e (either_comment _ _ _)

-- lines with the same contents either way
either_way : (v : Bool) (a a' c c' : List (List ℕ)) → map line_content a ≡ map line_content a'
    → map line_content c ≡ map line_content c'
    → map line_content (if v then a else c) ≡ map line_content (if v then a' else c')
either_way true a a' c c' p q = p
either_way false a a' c c' p q = q

-- of a comment nothing but its dashes counts
comment_kept : (line text : List ℕ) → contents_after (45 ∷ 45 ∷ line) text ≡ contents_after (45 ∷ 45 ∷ []) text
comment_kept line [] = ap (λ w. w ∷ []) (comment_content line ∙ sym (comment_content []))
comment_kept line (b ∷ text) =
    either_way (b == 10) _ _ _ _
    (ap (λ w. w ∷ map line_content (lines_after [] text)) (comment_content line ∙ sym (comment_content [])))
    (comment_kept (line ++ b ∷ []) text ∙ sym (comment_kept (b ∷ []) text))

-- what is kept of a line that has begun gives the same contents
pub kept_contents : (begun text : List ℕ) → contents_after (kept_part begun) text ≡ contents_after begun text
kept_contents begun text = elim (cases_Bool (is_comment begun)) [
  | inl dashed ↦
      let is = comment_is begun dashed in
      rw dashed (ap (λ w. contents_after (take 2 w) text) is ∙ sym (comment_kept (drop 2 begun) text)
      ∙ ap (λ w. contents_after w text) (sym is))
  | inr plain ↦ rw plain refl
]

-- bytes held, up to a line feed, go to the line that has begun
pub part_contents : (begun held : List ℕ) (n : ℕ) (text : List ℕ) → All (λ b. b ≢ 10) (take n held)
    → contents_after (kept_part (begun ++ take n held)) (drop n held ++ text) ≡ contents_after begun (held ++ text)
part_contents begun held n text none =
    kept_contents (begun ++ take n held) (drop n held ++ text)
    ∙ ap (map line_content) (sym (lines_move (take n held) begun (drop n held ++ text) none))
    ∙ ap (λ w. contents_after begun w) (sym (append_assoc (take n held) (drop n held) text)
    ∙ ap (λ w. w ++ text) (take-append-drop n held))

-- a line loses one byte at most
either_len : (v : Bool) (line : List ℕ) → (length (cond v (take (length line - 1) line) line) ≤ length line)
    × (length line ≤ length (cond v (take (length line - 1) line) line) + 1)
either_len true line = rw (length-take-le (length line - 1) line (omega arith)) (omega arith, omega arith)
either_len false line = (omega arith, omega arith)

strip_len : (line : List ℕ) → (length (strip_carriage_return line) ≤ length line)
    × (length line ≤ length (strip_carriage_return line) + 1)
strip_len line = either_len _ line

-- a line keeps its first two bytes
either_dashes : (v : Bool) (a c : ℕ) (x y : List ℕ)
    → is_comment (cond v (a ∷ c ∷ x) (a ∷ c ∷ y)) ≡ is_comment (a ∷ c ∷ y)
either_dashes true a c x y = refl
either_dashes false a c x y = refl

either_one : (v : Bool) (a : ℕ) → is_comment (cond v [] (a ∷ [])) ≡ false
either_one true a = refl
either_one false a = refl

either_two : (v : Bool) (a c : ℕ) → 1 < length (cond v (a ∷ []) (a ∷ c ∷ []))
    → is_comment (cond v (a ∷ []) (a ∷ c ∷ [])) ≡ is_comment (a ∷ c ∷ [])
either_two true a c h = let none : ⊥ = omega (arith, h) in absurd none
either_two false a c h = refl

strip_comment : (line : List ℕ) → 1 < length (strip_carriage_return line)
    → is_comment (strip_carriage_return line) ≡ is_comment line
strip_comment [] h = refl
strip_comment (a ∷ []) h = either_one _ a
strip_comment (a ∷ c ∷ []) h = either_two _ a c h
strip_comment (a ∷ c ∷ d ∷ line) h =
    let e : length (a ∷ c ∷ d ∷ line) - 1 ≡ suc (suc (length line)) = omega arith in
    rw e (either_dashes _ a c _ _)

-- the content of a line that is no comment and not empty
content_self : (line : List ℕ) → 0 < length line → is_comment line ≡ false → line_content line ≡ Some line
content_self [] some plain = let none : ⊥ = omega (arith, some) in absurd none
content_self (a ∷ line) some plain = rw plain refl

-- a line that has begun and is past the limit has a content
content_long : (limit : ℕ) (begun : List ℕ) → 0 < limit → is_too_long limit begun ≡ true
    → (line_content (strip_carriage_return begun) ≡ Some (strip_carriage_return begun))
    × (limit < length (strip_carriage_return begun))
content_long limit begun some long =
    let parts = not_first (is_comment begun) _ long in
    let above : limit < length (strip_carriage_return begun) = ltb-true _ _ parts.1 in
    (content_self _ (omega arith) (strip_comment begun (omega arith) ∙ parts.0), above)

-- a line of at most one byte is not past the limit
short_not_long : (limit : ℕ) (begun : List ℕ) → 0 < limit → length begun ≤ 1 → is_too_long limit begun ≡ true → ⊥
short_not_long limit begun some short long =
    let parts = not_first (is_comment begun) _ long in
    let above : limit < length (strip_carriage_return begun) = ltb-true _ _ parts.1 in
    omega (arith, some, short, above, (strip_len begun).0)

-- and is past it with one more byte
long_more : (limit : ℕ) (begun : List ℕ) (b : ℕ) → 0 < limit → is_too_long limit begun ≡ true
    → is_too_long limit (begun ++ b ∷ []) ≡ true
long_more limit [] b some long = absurd (short_not_long limit [] some (omega arith) long)
long_more limit (a ∷ []) b some long = absurd (short_not_long limit (a ∷ []) some (omega arith) long)
long_more limit (a ∷ c ∷ begun) b some long =
    let parts = not_first (is_comment (a ∷ c ∷ begun)) _ long in
    let above : limit < length (strip_carriage_return (a ∷ c ∷ begun)) = ltb-true _ _ parts.1 in
    let old = strip_len (a ∷ c ∷ begun) in
    let new = strip_len ((a ∷ c ∷ begun) ++ b ∷ []) in
    let one = length-append (a ∷ c ∷ begun) (b ∷ []) in
    rw parts.0 (lt-ltb _ _ (omega (arith, old.0, new.1, one)))

either_long : (v : Bool) (limit : ℕ) (a c : List (List ℕ)) → BeginsTooLong limit (Some (map line_content a))
    → BeginsTooLong limit (Some (map line_content c))
    → BeginsTooLong limit (Some (map line_content (if v then a else c)))
either_long true limit a c p q = p
either_long false limit a c p q = q

-- a line that has begun and is past the limit is a line past the limit
pub long_begins : (limit : ℕ) (begun text : List ℕ) → 0 < limit → is_too_long limit begun ≡ true
    → BeginsTooLong limit (Some (contents_after begun text))
long_begins limit [] [] some long = absurd (short_not_long limit [] some (omega arith) long)
long_begins limit (a ∷ begun) [] some long = let both = content_long limit (a ∷ begun) some long in rw both.0 both.1
long_begins limit begun (b ∷ text) some long =
    let both = content_long limit begun some long in
    either_long (b == 10) limit _ _ (rw both.0 both.1)
    (long_begins limit (begun ++ b ∷ []) text some (long_more limit begun b some long))
