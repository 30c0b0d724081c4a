-- A line is read as what it asks, and only as that.
use Rattle.std.proofs.Common.{◌≡◌, ℕ, suc, ◌+◌, ◌-◌, ◌*◌, ◌/◌, ◌%◌, ◌<◌, ◌≤◌, Bool, true, false, ◌&&◌, ◌==◌, nat_lt, nat_le, nat_eq, List, [], ◌∷◌, ◌++◌, length, take, drop, get_or, slice_index, codes, decimal, cond, Option, Some, None, refl, sym, ap, subst, ◌∙◌, arith}
use Rattle.std.specs.Prelude.{IsUtf8}
use Rattle.std.specs.List.{starts_with}
use Rattle.std.specs.Str.{is_utf8}
use Rattle.std.proofs.Math.Seq.{take-suc, take-length, take-append_seam, get_or-append_seam}
use Rattle.std.proofs.lemmas.List.{length-append}
use Rattle.std.proofs.lemmas.Fmt.{decimal_digit, decimal_step}
use Rattle.std.proofs.lemmas.Bool.{and_from, and_parts, ltb-true, ltb-false, leb-true, le-leb}
use Rattle.std.proofs.lemmas.Bool.Decides.{Decides-eqb}
use Rattle.std.proofs.lemmas.Option.{cond_some, option_and_then_some, same_Some}
use Rattle.std.proofs.lemmas.Slice.Eq.{starts_is}
use Rattle.std.proofs.lemmas.Str.{IsUtf8-from_is_utf8, is_utf8-from_IsUtf8}
use Rattle.dk_script.specs.Requests.{◌>>=◌, is_digit}
use Rattle.dk_script.specs.Requests.{session_behind, session_at, text_in, utf8_text, request_of}
use Rattle.dk_script.specs.GrammarLines.{IsRequest}
use Rattle.dk_script.specs.declared.line.TheConstants.{MAX_SESSION}

-- the first byte passes the test
abbrev begins : (ℕ → Bool) → List ℕ → Bool
begins test [] = false
begins test (b ∷ bytes) = test b

-- THE NUMBER

two_digits : (t d : ℕ) → 1 ≤ t → t < 10 → d < 10 → 10 * t + d ≤ MAX_SESSION
    → decimal (10 * t + d) ≡ (48 + t) ∷ (48 + d) ∷ []
two_digits t d least small digit most =
    let front : (10 * t + d) / 10 ≡ t = omega arith in
    let back : (10 * t + d) % 10 ≡ d = omega arith in
    decimal_step (10 * t + d) (omega arith) (omega arith)
    ∙ (ap (λ n. decimal n ++ ((48 + (10 * t + d) % 10) ∷ [])) front
    ∙ (ap (λ xs. xs ++ ((48 + (10 * t + d) % 10) ∷ [])) (decimal_digit t small)
    ∙ ap (λ n. (48 + t) ∷ (48 + n) ∷ []) back))

-- a line that begins with a session's number
record Numbers (line rest : List ℕ) (session : ℕ) : Type 0 where
  pub spelled : line ≡ decimal session ++ rest
  pub least : 1 ≤ session
  pub most : session ≤ MAX_SESSION

one_digit : (a n : ℕ) (rest : List ℕ) → 49 ≤ a → a ≤ 57 → n ≡ a - 48 → Numbers (a ∷ rest) rest n
one_digit a n rest low high is = record {
  spelled = ap (λ b. b ∷ rest) (let e : a ≡ 48 + n = omega arith in e)
      ∙ ap (λ xs. xs ++ rest) (sym (decimal_digit n (omega arith)));
  least = omega arith;
  most = omega arith;
}

digit_range : (b : ℕ) → is_digit b ≡ true → (48 ≤ b) × (b ≤ 57)
digit_range b h = let parts = and_parts (nat_le 48 b) (nat_le b 57) h in (leb-true 48 b parts.0, leb-true b 57 parts.1)

two_digit : (a b n : ℕ) (rest : List ℕ) → 49 ≤ a → a ≤ 57 → n ≡ a - 48 → is_digit b ≡ true
    → 10 * n + (b - 48) ≤ MAX_SESSION → Numbers (a ∷ b ∷ rest) rest (10 * n + (b - 48))
two_digit a b n rest low high is digit most =
    let range = digit_range b digit in
    let first : a ≡ 48 + n = omega arith in
    let second : b ≡ 48 + (b - 48) = omega arith in
    record {
      spelled = ap (λ x. x ∷ b ∷ rest) first
          ∙ (ap (λ x. (48 + n) ∷ x ∷ rest) second
          ∙ ap (λ xs. xs ++ rest) (sym (two_digits n (b - 48) (omega arith) (omega arith) (omega arith) most)));
      least = omega arith;
      most = most;
    }

by_digit : (a b n : ℕ) (rest : List ℕ) (x : ℕ × List ℕ) (t : Bool) → 49 ≤ a → a ≤ 57 → n ≡ a - 48 → is_digit b ≡ t
    → cond t (cond (nat_le (10 * n + (b - 48)) MAX_SESSION) (Some (10 * n + (b - 48), rest)) None)
    (Some (n, b ∷ rest)) ≡ Some x → Numbers (a ∷ b ∷ rest) x.1 x.0
by_digit a b n rest x true low high is digit h =
    let parts : (nat_le (10 * n + (b - 48)) MAX_SESSION ≡ true) × ((10 * n + (b - 48), rest) ≡ x) =
    cond_some (nat_le (10 * n + (b - 48)) MAX_SESSION) (10 * n + (b - 48), rest) x h in
    subst (λ (y : ℕ × List ℕ). Numbers (a ∷ b ∷ rest) y.1 y.0) parts.1
    (two_digit a b n rest low high is digit (leb-true (10 * n + (b - 48)) MAX_SESSION parts.0))
by_digit a b n rest x false low high is digit h =
    subst (λ (y : ℕ × List ℕ). Numbers (a ∷ b ∷ rest) y.1 y.0) (same_Some (n, b ∷ rest) x h)
    (one_digit a n (b ∷ rest) low high is)

behind_found : (a n : ℕ) (rest : List ℕ) (x : ℕ × List ℕ) → 49 ≤ a → a ≤ 57 → n ≡ a - 48
    → session_behind n rest ≡ Some x → Numbers (a ∷ rest) x.1 x.0
behind_found a n [] x low high is h =
    subst (λ (y : ℕ × List ℕ). Numbers (a ∷ []) y.1 y.0) (same_Some (n, []) x h) (one_digit a n [] low high is)
behind_found a n (b ∷ rest) x low high is h = by_digit a b n rest x (is_digit b) low high is refl h

session_found : (line : List ℕ) (x : ℕ × List ℕ) → session_at line ≡ Some x → Numbers line x.1 x.0
session_found [] x h = absurd (cc h)
session_found (a ∷ rest) x h = by_first (nat_le 49 a && nat_le a 57) refl h
  where
    by_first : (t : Bool) → (nat_le 49 a && nat_le a 57) ≡ t → cond t (session_behind (a - 48) rest) None ≡ Some x
        → Numbers (a ∷ rest) x.1 x.0
    by_first true e k = let parts = and_parts (nat_le 49 a) (nat_le a 57) e in
        behind_found a (a - 48) rest x (leb-true 49 a parts.0) (leb-true a 57 parts.1) refl k
    by_first false e k = absurd (cc k)

behind_stops : (n : ℕ) (rest : List ℕ) → begins is_digit rest ≡ false → session_behind n rest ≡ Some (n, rest)
behind_stops n [] h = refl
behind_stops n (b ∷ rest) h =
    ap (λ t. cond t (cond (nat_le (10 * n + (b - 48)) MAX_SESSION) (Some (10 * n + (b - 48), rest)) None)
    (Some (n, b ∷ rest))) h

first_digit : (a : ℕ) (rest : List ℕ) → 49 ≤ a → a ≤ 57 → session_at (a ∷ rest) ≡ session_behind (a - 48) rest
first_digit a rest low high =
    ap (λ t. cond t (session_behind (a - 48) rest) None)
    (and_from (nat_le 49 a) (nat_le a 57) (le-leb 49 a low) (le-leb a 57 high))

one_again : (s : ℕ) (rest : List ℕ) → 1 ≤ s → s < 10 → begins is_digit rest ≡ false
    → session_at (decimal s ++ rest) ≡ Some (s, rest)
one_again s rest least small stop =
    ap (λ xs. session_at (xs ++ rest)) (decimal_digit s small)
    ∙ (first_digit (48 + s) rest (omega arith) (omega arith)
    ∙ (ap (λ n. session_behind n rest) (let e : 48 + s - 48 ≡ s = omega arith in e) ∙ behind_stops s rest stop))

second_digit : (n b : ℕ) (rest : List ℕ) → 48 ≤ b → b ≤ 57 → 10 * n + (b - 48) ≤ MAX_SESSION
    → session_behind n (b ∷ rest) ≡ Some (10 * n + (b - 48), rest)
second_digit n b rest low high most =
    ap (λ t. cond t (cond (nat_le (10 * n + (b - 48)) MAX_SESSION) (Some (10 * n + (b - 48), rest)) None)
    (Some (n, b ∷ rest))) (and_from (nat_le 48 b) (nat_le b 57) (le-leb 48 b low) (le-leb b 57 high))
    ∙ ap (λ t. cond t (Some (10 * n + (b - 48), rest)) None) (le-leb (10 * n + (b - 48)) MAX_SESSION most)

two_again : (t d : ℕ) (rest : List ℕ) → 1 ≤ t → t < 10 → d < 10 → 10 * t + d ≤ MAX_SESSION
    → session_at (decimal (10 * t + d) ++ rest) ≡ Some (10 * t + d, rest)
two_again t d rest least small digit most =
    let front : 48 + t - 48 ≡ t = omega arith in
    let back : 48 + d - 48 ≡ d = omega arith in
    let short : 10 * t + (48 + d - 48) ≤ MAX_SESSION = omega arith in
    ap (λ xs. session_at (xs ++ rest)) (two_digits t d least small digit most)
    ∙ (first_digit (48 + t) ((48 + d) ∷ rest) (omega arith) (omega arith)
    ∙ (ap (λ n. session_behind n ((48 + d) ∷ rest)) front
    ∙ (second_digit t (48 + d) rest (omega arith) (omega arith) short ∙ ap (λ n. Some (10 * t + n, rest)) back)))

session_again : (s : ℕ) (rest : List ℕ) → 1 ≤ s → s ≤ MAX_SESSION → begins is_digit rest ≡ false
    → session_at (decimal s ++ rest) ≡ Some (s, rest)
session_again s rest least most stop = by_size (nat_lt s 10) refl
  where
    by_size : (t : Bool) → nat_lt s 10 ≡ t → session_at (decimal s ++ rest) ≡ Some (s, rest)
    by_size true e = one_again s rest least (ltb-true s 10 e) stop
    by_size false e =
        let large : 10 ≤ s = ltb-false s 10 e in
        let is : 10 * (s / 10) + s % 10 ≡ s = omega arith in
        subst (λ (n : ℕ). session_at (decimal n ++ rest) ≡ Some (n, rest)) is
        (two_again (s / 10) (s % 10) rest (omega arith) (omega arith) (omega arith) (omega arith))

-- THE TEXT

last_split : (m text : List ℕ) → 1 ≤ length m → get_or m (length m - 1) 0 ≡ 59 → take (length m - 1) m ≡ text
    → m ≡ text ++ 59 ∷ []
last_split m text some last front =
    let all : suc (length m - 1) ≡ length m = omega arith in
    sym (take-length m) ∙ (ap (λ n. take n m) (sym all)
    ∙ (take-suc m (length m - 1) 0 (omega arith)
    ∙ (ap (λ b. take (length m - 1) m ++ b ∷ []) last ∙ ap (λ xs. xs ++ 59 ∷ []) front)))

text_by : (rest text : List ℕ) → starts_with nat_eq rest (codes ": ") ≡ true → 3 ≤ length rest
    → slice_index rest (length rest - 1) ≡ 59 → take (length rest - 3) (drop 2 rest) ≡ text
    → rest ≡ codes ": " ++ (text ++ codes ";")
text_by [] text starts long last front = absurd (omega arith)
text_by (a ∷ []) text starts long last front = absurd (omega arith)
text_by (a ∷ b ∷ m) text starts long last front =
    let head : a ∷ b ∷ m ≡ codes ": " ++ m =
    (starts_is Decides-eqb (a ∷ b ∷ m) (codes ": ") (starts_with nat_eq (a ∷ b ∷ m) (codes ": ")) refl).0 starts in
    let at_last : length (a ∷ b ∷ m) - 1 ≡ suc (suc (length m - 1)) = omega arith in
    let before : length (a ∷ b ∷ m) - 3 ≡ length m - 1 = omega arith in
    head ∙ ap (λ xs. codes ": " ++ xs)
    (last_split m text (omega arith) (ap (λ n. get_or (a ∷ b ∷ m) n 0) (sym at_last) ∙ last)
    (ap (λ n. take n m) (sym before) ∙ front))

text_found : (rest text : List ℕ) → text_in rest ≡ Some text → rest ≡ codes ": " ++ (text ++ codes ";")
text_found rest text h =
    let parts : ((starts_with nat_eq rest (codes ": ") &&
    (nat_le 3 (length rest) && slice_index rest (length rest - 1) == 59)) ≡ true)
    × (take (length rest - 3) (drop 2 rest) ≡ text) =
    cond_some (starts_with nat_eq rest (codes ": ") &&
    (nat_le 3 (length rest) && slice_index rest (length rest - 1) == 59)) (take (length rest - 3) (drop 2 rest))
    text h in
    let two = and_parts (starts_with nat_eq rest (codes ": "))
    (nat_le 3 (length rest) && slice_index rest (length rest - 1) == 59) parts.0 in
    let more = and_parts (nat_le 3 (length rest)) (slice_index rest (length rest - 1) == 59) two.1 in
    text_by rest text two.0 (leb-true 3 (length rest) more.0)
    ((Decides-eqb (slice_index rest (length rest - 1)) 59).0 more.1) parts.1

text_at : (text m : List ℕ) (n k : ℕ) → m ≡ text ++ 59 ∷ [] → n ≡ suc (suc (length text)) → k ≡ length text
    → cond (starts_with nat_eq (58 ∷ 32 ∷ m) (codes ": ") &&
    (nat_le 3 (length (58 ∷ 32 ∷ m)) && get_or (58 ∷ 32 ∷ m) n 0 == 59)) (Some (take k m)) None ≡ Some text
text_at text m n k is last front =
    let starts : starts_with nat_eq (58 ∷ 32 ∷ m) (codes ": ") ≡ true =
    (starts_is Decides-eqb (58 ∷ 32 ∷ m) (codes ": ") (starts_with nat_eq (58 ∷ 32 ∷ m) (codes ": ")) refl).1 m
    refl in
    let long : nat_le 3 (length (58 ∷ 32 ∷ m)) ≡ true =
    le-leb 3 (length (58 ∷ 32 ∷ m)) (omega (arith, ap length is, length-append text (59 ∷ []))) in
    let closed : get_or (58 ∷ 32 ∷ m) n 0 ≡ 59 = ap (λ n. get_or (58 ∷ 32 ∷ m) n 0) last
    ∙ (ap (λ xs. get_or xs (length text) 0) is ∙ get_or-append_seam text 59 [] 0) in
    ap (λ t. cond t (Some (take k m)) None)
    (and_from (starts_with nat_eq (58 ∷ 32 ∷ m) (codes ": "))
    (nat_le 3 (length (58 ∷ 32 ∷ m)) && get_or (58 ∷ 32 ∷ m) n 0 == 59) starts
    (and_from (nat_le 3 (length (58 ∷ 32 ∷ m))) (get_or (58 ∷ 32 ∷ m) n 0 == 59) long
    ((Decides-eqb (get_or (58 ∷ 32 ∷ m) n 0) 59).1 closed)))
    ∙ (ap (λ n. Some (take n m)) front
    ∙ (ap (λ xs. Some (take (length text) xs)) is ∙ ap Some (take-append_seam text (59 ∷ []))))

text_again : (text : List ℕ) → text_in (codes ": " ++ (text ++ codes ";")) ≡ Some text
text_again text =
    text_at text (text ++ 59 ∷ []) (length (58 ∷ 32 ∷ (text ++ 59 ∷ [])) - 1)
    (length (58 ∷ 32 ∷ (text ++ 59 ∷ [])) - 3) refl
    (omega (arith, length-append text (59 ∷ []))) (omega (arith, length-append text (59 ∷ [])))

-- THE LINE

utf8_found : (text y : List ℕ) → utf8_text text ≡ Some y → IsUtf8 text × (text ≡ y)
utf8_found text y h = let parts : (is_utf8 text ≡ true) × (text ≡ y) = cond_some (is_utf8 text) text y h in
    (IsUtf8-from_is_utf8 text parts.0, parts.1)

utf8_again : (text : List ℕ) → IsUtf8 text → utf8_text text ≡ Some text
utf8_again text h = ap (λ t. cond t (Some text) None) (is_utf8-from_IsUtf8 text h)

ask_by : (line : List ℕ) (x session : ℕ × List ℕ) (text found : List ℕ) → session_at line ≡ Some session
    → text_in session.1 ≡ Some text → utf8_text text ≡ Some found
    → ◌≡◌ {A = Option (ℕ × List ℕ)} (Some (session.0, found)) (Some x) → IsRequest line x.0 x.1
ask_by line x session text found number inside utf8 same =
    let numbers = session_found line session number in
    let valid = utf8_found text found utf8 in
    subst (λ (y : ℕ × List ℕ). IsRequest line y.0 y.1) (same_Some (session.0, found) x same)
    (subst (λ (t : List ℕ). IsRequest line session.0 t) valid.1
    record {
      spelled = numbers.spelled ∙ ap (λ xs. decimal session.0 ++ xs) (text_found session.1 text inside);
      least = numbers.least;
      most = numbers.most;
      utf8 = valid.0;
    })

pub request_found : (line : List ℕ) (x : ℕ × List ℕ) → request_of line ≡ Some x → IsRequest line x.0 x.1
request_found line x h =
    option_and_then_some _ (session_at line) x h
    (λ session number h1. option_and_then_some _ (text_in session.1) x h1
    (λ text inside h2. option_and_then_some _ (utf8_text text) x h2 (λ found utf8 same.
    ask_by line x session text found number inside utf8 same)))

pub request_again : (line : List ℕ) (session : ℕ) (text : List ℕ) → IsRequest line session text
    → request_of line ≡ Some (session, text)
request_again line session text is =
    ap request_of is.spelled
    ∙ (ap (λ found. found >>= λ s. text_in s.1 >>= λ t. utf8_text t >>= λ t. Some (s.0, t))
    (session_again session (codes ": " ++ (text ++ codes ";")) is.least is.most refl)
    ∙ (ap (λ found. found >>= λ t. utf8_text t >>= λ t. Some (session, t)) (text_again text)
    ∙ ap (λ found. found >>= λ t. Some (session, t)) (utf8_again text is.utf8)))
