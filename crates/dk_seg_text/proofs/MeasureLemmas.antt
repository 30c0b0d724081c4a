-- How long a body is, and its parts one behind the other.
use Rattle.std.proofs.Common.{◌≡◌, ℕ, suc, ◌+◌, ◌*◌, ◌<◌, ◌≤◌, ◌^◌, Bool, true, false, cond, ◌||◌, ◌&&◌, not, bytes_eq, List, [], ◌∷◌, ◌++◌, map, length, take, drop, get_or, Option, Some, None, refl, sym, ap, subst, ◌∙◌, arith, length-append, inl, inr}
use Rattle.std.specs.List.{AllByRecursion, flat_map, list_any}
use Rattle.std.specs.Int.{w16, to_le_bytes}
use Rattle.std.specs.Simd.Lanes.{number_l as number}
use Rattle.std.proofs.lemmas.List.{take_more, take-append-drop, map-append}
use Rattle.std.proofs.lemmas.Slice.Eq.{bytes_eq-Decides}
use Rattle.std.proofs.lemmas.Bool.{cases_lt}
use Rattle.std.proofs.Math.Seq.{drop-cons}
use Rattle.dk_values.specs.declared.value.Value.{Value}
use Rattle.dk_values.specs.declared.value.ColType.TheVariants as types
use Rattle.dk_values.specs.declared.value.Value.TheVariants as variants
use Rattle.dk_bytes.specs.PlainValue.{IsPlain, is_present, present}
use Rattle.dk_bytes.specs.Bits.{byte_count, packed}
use Rattle.dk_bytes.proofs.DigitLemmas.{length-digits}
use Rattle.dk_seg_text.specs.Dictionary.{text_of, is_entry, with_entry, entries_behind, entries_of, codes_behind, code_width, entry_bytes, body_with, dictionary_bytes}
use Rattle.dk_seg_text.proofs.TextLemmas.{seen_any}
use Rattle.dk_seg_text.proofs.CodeLemmas.{grown}
use Rattle.dk_bytes.proofs.AppendLemmas.{three_joined}

pub codes_len : (entries texts : List (List ℕ)) → length (codes_behind entries texts) ≡ length texts
codes_len entries [] = refl
codes_len entries (t ∷ texts) = let ih = codes_len (with_entry entries t) texts in omega (arith, ih)

pub map_length : (values : List Value) → length (map text_of values) ≡ length values
map_length [] = refl
map_length (v ∷ values) = let ih = map_length values in omega (arith, ih)

-- two bytes, the entries, one byte and the codes
pub dictionary_len : (values : List Value) → length (dictionary_bytes values) ≡ 3 + length (flat_map entry_bytes (entries_of (map text_of values))) + byte_count (code_width (length (entries_of (map text_of values))) * length values)
dictionary_len values =
    let texts : List (List ℕ) = map text_of values in
    let entries : List (List ℕ) = entries_of texts in
    let codes : List ℕ = codes_behind [] texts in
    let width : ℕ = code_width (length entries) in
    let e = length-digits 256 (byte_count (width * length codes)) (number (2 ^ width) codes) in
    let f : length codes ≡ length values = codes_len [] texts ∙ map_length values in
    let g = ap (λ (n : ℕ). byte_count (width * n)) f in
    let h = length-append (flat_map entry_bytes entries) (width ∷ packed width codes) in
    omega (arith, e, g, h)

-- the fields of a body, one behind the other
pub body_joined : (texts entries : List (List ℕ)) (codes : List ℕ) (n n' : ℕ) (out out1 out2 out3 : List ℕ) → entries ≡ entries_of texts → codes ≡ codes_behind [] texts → n ≡ length entries → n' ≡ length entries
    → out1 ≡ out ++ to_le_bytes w16 n → out2 ≡ out1 ++ flat_map entry_bytes entries → out3 ≡ out2 ++ (code_width n' ∷ packed (code_width n') codes) → out3 ≡ out ++ body_with (entries_of texts) (codes_behind [] texts)
body_joined texts entries codes n n' out out1 out2 out3 e f g h p q r =
    three_joined out (to_le_bytes w16 n) (flat_map entry_bytes entries) (code_width n' ∷ packed (code_width n') codes) out1 out2 out3 p q r
    ∙ ap (λ (xs : List ℕ). out ++ (xs ++ (flat_map entry_bytes entries ++ (code_width n' ∷ packed (code_width n') codes)))) (ap (to_le_bytes w16) g)
    ∙ ap (λ (m : ℕ). out ++ (to_le_bytes w16 (length entries) ++ (flat_map entry_bytes entries ++ (code_width m ∷ packed (code_width m) codes)))) h
    ∙ ap (λ (es : List (List ℕ)). out ++ body_with es codes) e
    ∙ ap (λ (cs : List ℕ). out ++ body_with (entries_of texts) cs) f

-- ---- entries of the first values

or_assoc : (a b c : Bool) → ((a || b) || c) ≡ (a || (b || c))
or_assoc true b c = refl
or_assoc false b c = refl

or_false : (a : Bool) → (a || false) ≡ a
or_false true = refl
or_false false = refl

any_append : (es : List (List ℕ)) (x t : List ℕ) → is_entry (es ++ x ∷ []) t ≡ (is_entry es t || bytes_eq t x)
any_append [] x t = or_false (bytes_eq t x)
any_append (e ∷ es) x t = ap (λ (b : Bool). bytes_eq t e || b) (any_append es x t) ∙ sym (or_assoc (bytes_eq t e) (is_entry es t) (bytes_eq t x))

also_entry : (es : List (List ℕ)) (x t : List ℕ) (same : Bool) → same ≡ bytes_eq t x → true ≡ is_entry es x → is_entry es t ≡ (is_entry es t || same)
also_entry es x t false e h = sym (or_false (is_entry es t))
also_entry es x t true e h =
    let eq : t ≡ x = (bytes_eq-Decides t x).0 (sym e) in
    let there : is_entry es t ≡ true = ap (is_entry es) eq ∙ sym h in
    rw there refl

with_one : (es : List (List ℕ)) (x t : List ℕ) (known : Bool) → known ≡ is_entry es x → is_entry (cond known es (es ++ x ∷ [])) t ≡ (is_entry es t || bytes_eq t x)
with_one es x t true e = also_entry es x t (bytes_eq t x) refl e
with_one es x t false e = any_append es x t

entry_among : (es texts : List (List ℕ)) (t : List ℕ) → is_entry (entries_behind es texts) t ≡ (is_entry es t || is_entry texts t)
entry_among es [] t = sym (or_false (is_entry es t))
entry_among es (x ∷ texts) t =
    entry_among (with_entry es x) texts t
    ∙ ap (λ (b : Bool). b || is_entry texts t) (with_one es x t (is_entry es x) refl)
    ∙ or_assoc (is_entry es t) (bytes_eq t x) (is_entry texts t)

any_present : (values : List Value) (t : List ℕ) → list_any (λ v. is_present v && bytes_eq t (text_of v)) values ≡ list_any (λ v. bytes_eq t (text_of v)) (present values)
any_present [] t = refl
any_present (v ∷ values) t = by_test (is_present v) refl (any_present values t)
  where
    by_test : (b : Bool) → is_present v ≡ b → list_any (λ v. is_present v && bytes_eq t (text_of v)) values ≡ list_any (λ v. bytes_eq t (text_of v)) (present values)
        → list_any (λ v. is_present v && bytes_eq t (text_of v)) (v ∷ values) ≡ list_any (λ v. bytes_eq t (text_of v)) (present (v ∷ values))
    by_test true e ih = rw e (ap (λ (b : Bool). bytes_eq t (text_of v) || b) ih)
    by_test false e ih = rw e ih

-- a text is among the values that are present exactly where it is an entry
pub known_is : (values : List Value) (t : List ℕ) (known : Bool) → known ≡ list_any (λ v. is_present v && bytes_eq t (text_of v)) values → known ≡ is_entry (entries_of (map text_of (present values))) t
known_is values t known e = e ∙ any_present values t ∙ seen_any text_of (present values) t ∙ sym (entry_among [] (map text_of (present values)) t)

fold_append : (es texts more : List (List ℕ)) → entries_behind es (texts ++ more) ≡ entries_behind (entries_behind es texts) more
fold_append es [] more = refl
fold_append es (t ∷ texts) more = fold_append (with_entry es t) texts more

present_append : (values more : List Value) → present (values ++ more) ≡ present values ++ present more
present_append [] more = refl
present_append (v ∷ values) more = by_test (is_present v) refl (present_append values more)
  where
    by_test : (b : Bool) → is_present v ≡ b → present (values ++ more) ≡ present values ++ present more → present (v ∷ (values ++ more)) ≡ present (v ∷ values) ++ present more
    by_test true e ih = rw e (ap (λ (l : List Value). v ∷ l) ih)
    by_test false e ih = rw e ih

-- the entries with the text of one more value, if it is present
abbrev pub with_cell : List (List ℕ) → Value → List (List ℕ)
with_cell entries v = cond (is_present v) (with_entry entries (text_of v)) entries

cell_last : (values : List Value) (v : Value) → entries_of (map text_of (present (values ++ v ∷ []))) ≡ with_cell (entries_of (map text_of (present values))) v
cell_last values v =
    ap (λ (l : List Value). entries_of (map text_of l)) (present_append values (v ∷ []))
    ∙ ap entries_of (map-append text_of (present values) (present (v ∷ [])))
    ∙ fold_append [] (map text_of (present values)) (map text_of (present (v ∷ [])))
    ∙ by_test (is_present v) refl
  where
    by_test : (b : Bool) → is_present v ≡ b → entries_behind (entries_of (map text_of (present values))) (map text_of (present (v ∷ []))) ≡ with_cell (entries_of (map text_of (present values))) v
    by_test true e = rw e refl
    by_test false e = rw e refl

pub entries_next : (values : List Value) (i : ℕ) (v : Value) → i < length values → v ≡ get_or values i v → entries_of (map text_of (present (take (i + 1) values))) ≡ with_cell (entries_of (map text_of (present (take i values)))) v
entries_next values i v h e =
    let more : take (i + 1) values ≡ take i values ++ v ∷ [] = take_more values i v h ∙ ap (λ (x : Value). take i values ++ x ∷ []) (sym e) in
    ap (λ (vs : List Value). entries_of (map text_of (present vs))) more ∙ cell_last (take i values) v

-- the value at a place, and the values behind it
head_fits : (v : Value) (vs : List Value) → AllByRecursion (IsPlain types.Text) (present (v ∷ vs)) → (is_present v ≡ true → IsPlain types.Text v) × AllByRecursion (IsPlain types.Text) (present vs)
head_fits v vs all = by_test (is_present v) refl
  where
    by_test : (b : Bool) → is_present v ≡ b → (is_present v ≡ true → IsPlain types.Text v) × AllByRecursion (IsPlain types.Text) (present vs)
    by_test true e = let both = rw e at all in (λ _. both.0, both.1)
    by_test false e = let both = rw e at all in (λ f. absurd (let g : false ≡ true = sym e ∙ f in cc), both)

place_fits : (values : List Value) (i : ℕ) (v : Value) → i < length values → v ≡ get_or values i v → AllByRecursion (IsPlain types.Text) (present (drop i values)) → (is_present v ≡ true → IsPlain types.Text v) × AllByRecursion (IsPlain types.Text) (present (drop (i + 1) values))
place_fits values i v h f all =
    let e : suc i ≡ i + 1 = omega arith in
    let parts : drop i values ≡ v ∷ drop (i + 1) values = drop-cons values i v h ∙ ap (λ (x : Value). x ∷ drop (suc i) values) (sym f) ∙ ap (λ (n : ℕ). v ∷ drop n values) e in
    head_fits v (drop (i + 1) values) (subst (λ (l : List Value). AllByRecursion (IsPlain types.Text) (present l)) parts all)

pub rest_fits : (values : List Value) (i : ℕ) (v : Value) → i < length values → v ≡ get_or values i v → AllByRecursion (IsPlain types.Text) (present (drop i values)) → AllByRecursion (IsPlain types.Text) (present (drop (i + 1) values))
rest_fits values i v h f all = (place_fits values i v h f all).1

-- the entries and what was counted of them
pub record IsMeasure (entries : List (List ℕ)) (m : ℕ × ℕ) : Type 0 where
  pub count : m.0 ≡ length entries
  pub len : m.1 ≡ length (flat_map entry_bytes entries)
  pub few : m.0 ≤ 65535
  pub small : m.1 ≤ 65537 * m.0

flat_one : (es : List (List ℕ)) (t : List ℕ) → length (flat_map entry_bytes (es ++ t ∷ [])) ≡ length (flat_map entry_bytes es) + (2 + length t)
flat_one [] t = omega (arith, length-append t [])
flat_one (e ∷ es) t = omega (arith, flat_one es t, length-append (entry_bytes e) (flat_map entry_bytes (es ++ t ∷ [])), length-append (entry_bytes e) (flat_map entry_bytes es))

pub one_measured : (es : List (List ℕ)) (t : List ℕ) (count len : ℕ) (m : ℕ × ℕ) (known : Bool) → count ≡ length es → len ≡ length (flat_map entry_bytes es) → count ≤ 65535 → len ≤ 65537 * count → length t < 2 ^ 16 → known ≡ is_entry es t
    → (known ≡ true → Some m ≡ Some (count, len)) → (known ≡ false → count < 65535 → Some m ≡ Some (count + 1, len + (2 + length t))) → (known ≡ false → count ≡ 65535 → Some m ≡ None) → IsMeasure (with_entry es t) m
one_measured es t count len m true c l few small short e known fresh full =
    let same : (count, len) ≡ m = cc (known refl) in
    subst (λ (x : ℕ × ℕ). IsMeasure (with_entry es t) x) same (rw (← e) (record { count = c; len = l; few = few; small = small }))
one_measured es t count len m false c l few small short e known fresh full =
    elim (cases_lt count 65535) [
      | inl lt ↦
          let same : (count + 1, len + (2 + length t)) ≡ m = cc (fresh refl lt) in
          subst (λ (x : ℕ × ℕ). IsMeasure (with_entry es t) x) same
          (rw (← e) (record { count = omega (arith, length-append es (t ∷ [])); len = omega (arith, flat_one es t); few = omega arith; small = omega arith }))
      | inr le ↦ absurd (let none : Some m ≡ None = full refl (omega arith) in cc)
    ]

pub cell_measured : (es : List (List ℕ)) (v : Value) (count len : ℕ) (m : ℕ × ℕ) (known : Bool) → count ≡ length es → len ≡ length (flat_map entry_bytes es) → count ≤ 65535 → len ≤ 65537 * count → length (text_of v) < 2 ^ 16
    → known ≡ (not (is_present v) || is_entry es (text_of v))
    → (known ≡ true → Some m ≡ Some (count, len)) → (known ≡ false → count < 65535 → Some m ≡ Some (count + 1, len + (2 + length (text_of v)))) → (known ≡ false → count ≡ 65535 → Some m ≡ None) → IsMeasure (with_cell es v) m
cell_measured es v count len m known c l few small short e old fresh full = by_test (is_present v) refl
  where
    by_test : (b : Bool) → is_present v ≡ b → IsMeasure (with_cell es v) m
    by_test true f = rw f (one_measured es (text_of v) count len m known c l few small short (rw f at e) old fresh full)
    by_test false f =
        let is : known ≡ true = rw f at e in
        let same : (count, len) ≡ m = cc (old is) in
        rw f (subst (λ (x : ℕ × ℕ). IsMeasure es x) same (record { count = c; len = l; few = few; small = small }))

none_some : {A : Type 0} {x : A} → None ≡ Some x → ⊥
none_some e = cc

pub short_text : (v : Value) → (is_present v ≡ true → IsPlain types.Text v) → length (text_of v) < 2 ^ 16
short_text (variants.Text text) h = (h refl).0
short_text v h = omega arith

pub first_short : (values : List Value) (i : ℕ) (v : Value) → i < length values → v ≡ get_or values i v → AllByRecursion (IsPlain types.Text) (present (drop i values)) → length (text_of v) < 2 ^ 16
first_short values i v h e all = short_text v (place_fits values i v h e all).0

pub never : false ≡ true → ⊥
never e = cc

pub too_many : (values : List Value) (i : ℕ) (v : Value) (count len : ℕ) (known : Bool) → i < length values → v ≡ get_or values i v → count ≡ length (entries_of (map text_of (present (take i values)))) → count ≤ 65535
    → known ≡ (not (is_present v) || is_entry (entries_of (map text_of (present (take i values)))) (text_of v))
    → (known ≡ true → ◌≡◌ {A = Option (ℕ × ℕ)} None (Some (count, len))) → (known ≡ false → count < 65535 → ◌≡◌ {A = Option (ℕ × ℕ)} None (Some (count + 1, len + (2 + length (text_of v))))) → 65536 ≤ length (entries_of (map text_of (present values)))
too_many values i v count len true h e c few k known fresh = absurd (none_some (known refl))
too_many values i v count len false h e c few k known fresh =
    let es : List (List ℕ) = entries_of (map text_of (present (take i values))) in
    let longer : with_cell (entries_of (map text_of (present (take i values)))) v ≡ es ++ text_of v ∷ [] = by_test (is_present v) refl k in
    let next : entries_of (map text_of (present (take (i + 1) values))) ≡ es ++ text_of v ∷ [] = entries_next values i v h e ∙ longer in
    let all : entries_of (map text_of (present values)) ≡ entries_behind (entries_of (map text_of (present (take (i + 1) values)))) (map text_of (present (drop (i + 1) values))) =
    ap (λ (vs : List Value). entries_of (map text_of (present vs))) (sym (take-append-drop (i + 1) values))
    ∙ ap (λ (vs : List Value). entries_of (map text_of vs)) (present_append (take (i + 1) values) (drop (i + 1) values))
    ∙ ap entries_of (map-append text_of (present (take (i + 1) values)) (present (drop (i + 1) values)))
    ∙ fold_append [] (map text_of (present (take (i + 1) values))) (map text_of (present (drop (i + 1) values))) in
    elim (cases_lt count 65535) [
      | inl lt ↦ absurd (none_some (fresh refl lt))
      | inr le ↦ omega (arith, ap length all, ap length next, length-append es (text_of v ∷ []), grown (entries_of (map text_of (present (take (i + 1) values)))) (map text_of (present (drop (i + 1) values))))
    ]
  where
    by_test : (b : Bool) → is_present v ≡ b → false ≡ (not (is_present v) || is_entry (entries_of (map text_of (present (take i values)))) (text_of v)) → with_cell (entries_of (map text_of (present (take i values)))) v ≡ entries_of (map text_of (present (take i values))) ++ text_of v ∷ []
    by_test true f k = rw (f, ← (rw f at k)) refl
    by_test false f k = absurd (let g : false ≡ true = rw f at k in cc)

-- ---- entries in a table

pub not_twice : (fresh known : Bool) → fresh ≡ not known → not fresh ≡ known
not_twice fresh true e = ap not e
not_twice fresh false e = ap not e

-- the entries with the first text, and the texts behind it
pub one_behind : (entries : List (List ℕ)) (t : List ℕ) (v : Value) (left rest : List Value) (all : List (List ℕ)) → t ≡ text_of v → left ≡ v ∷ rest → entries_behind entries (map text_of left) ≡ all → entries_behind (with_entry entries t) (map text_of rest) ≡ all
one_behind entries t v left rest all e f told =
    ap (λ (u : List ℕ). entries_behind (with_entry entries u) (map text_of rest)) e
    ∙ ap (λ (vs : List Value). entries_behind entries (map text_of vs)) (sym f)
    ∙ told

pub first_fits : (v : Value) (left rest : List Value) → left ≡ v ∷ rest → AllByRecursion (IsPlain types.Text) left → IsPlain types.Text v × AllByRecursion (IsPlain types.Text) rest
first_fits v left rest e all = subst (λ (vs : List Value). AllByRecursion (IsPlain types.Text) vs) e all

pub full_behind : (entries : List (List ℕ)) (t : List ℕ) (texts : List (List ℕ)) (count len : ℕ) (known : Bool) → count ≡ length entries → count ≤ 65535 → known ≡ is_entry entries t
    → (known ≡ true → ◌≡◌ {A = Option (ℕ × ℕ)} None (Some (count, len))) → (known ≡ false → count < 65535 → ◌≡◌ {A = Option (ℕ × ℕ)} None (Some (count + 1, len + (2 + length t)))) → 65536 ≤ length (entries_behind (with_entry entries t) texts)
full_behind entries t texts count len true c few k known fresh = absurd (none_some (known refl))
full_behind entries t texts count len false c few k known fresh =
    let longer : with_entry entries t ≡ entries ++ t ∷ [] = ap (λ (b : Bool). cond b entries (entries ++ t ∷ [])) (sym k) in
    elim (cases_lt count 65535) [
      | inl lt ↦ absurd (none_some (fresh refl lt))
      | inr le ↦ omega (arith, ap length longer, length-append entries (t ∷ []), grown (with_entry entries t) texts)
    ]
