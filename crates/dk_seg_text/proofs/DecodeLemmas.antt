-- What was read is what is written.
use Rattle.std.proofs.Common.{◌≡◌, ℕ, zero, suc, ◌+◌, ◌*◌, ◌<◌, ◌≤◌, ◌^◌, ◌==◌, Bool, true, false, cond, ◌||◌, not, ltb, bytes_eq, List, [], ◌∷◌, ◌++◌, map, length, get_or, Option, Some, None, Ok, Err, refl, sym, ap, subst, ◌∙◌, append_assoc, append-nil, arith, length-append, inl, inr}
use Rattle.dk_bytes.proofs.PackingLemmas.{found_packed}
use Rattle.std.specs.List.{AllByRecursion, flat_map}
use Rattle.std.specs.Int.{w8, w16, to_le_bytes}
use Rattle.std.proofs.lemmas.Bool.{cases_lt, ltb-false, eqb-true, eqb-false, or_parts}
use Rattle.std.proofs.lemmas.Str.{IsUtf8-nil}
use Rattle.std.proofs.lemmas.Slice.Eq.{bytes_eq-Decides}
use Rattle.dk_values.specs.declared.value.ColType.{ColType}
use Rattle.dk_values.specs.declared.value.ColType.TheVariants as types
use Rattle.dk_values.specs.declared.value.Value.{Value}
use Rattle.dk_values.specs.declared.value.Value.TheVariants as variants
use Rattle.dk_bytes.specs.Fields.{IsBytes, Place, bytes_at, number_at}
use Rattle.dk_bytes.specs.Reading.{◌>>=◌, start, whole, or_fault, IsBody}
use Rattle.dk_bytes.specs.PlainValue.{IsPlain, plain_bytes, text_at}
use Rattle.dk_bytes.proofs.NumberLemmas.{Takes, Takes-then, bind_ok, guard_ok, chosen_ok, low_byte, wide8, wide16, bytes_takes, number_takes, done, ok_is, bytes_front, fault_none, passed_ok, chosen, some_items}
use Rattle.dk_bytes.proofs.PlainValueLemmas.{value_takes}
use Rattle.dk_bytes.proofs.OutcomeLemmas.{whole_ok}
use Rattle.dk_bytes.specs.Bits.{byte_count, numbers_in}
use Rattle.dk_seg_text.specs.Dictionary.{text_of, is_entry, with_entry, code_of, entries_behind, entries_of, codes_behind, code_width, entry_bytes, body_with, dictionary_bytes, IsDictionary, entry_at, entries_at, used_behind, are_all_used, text_with, texts_with, codes_at, width_at, texts_at, is_text, dictionary_at}
use Rattle.dk_seg_text.proofs.CodeLemmas.{place_of}
use Rattle.dk_seg_text.proofs.EntryLemmas.{IsText, AreNew, front_item, next_item}

-- ---- entries of which none stands twice

-- the text at each place has that place as its code
abbrev pub IsOwn : List (List ℕ) → ℕ → Type 0
IsOwn entries k = (is_entry entries (get_or entries k []) ≡ true) × (code_of entries (get_or entries k []) ≡ k)

abbrev pub AreOwn : List (List ℕ) → Type 0
AreOwn entries = (k : ℕ) → k < length entries → IsOwn entries k

same_text : (t : List ℕ) → bytes_eq t t ≡ true
same_text t = (bytes_eq-Decides t t).1 refl

-- a text that is an entry has the same code among more entries
still_own : (entries more : List (List ℕ)) (t : List ℕ) → is_entry entries t ≡ true → (is_entry (entries ++ more) t ≡ true) × (code_of (entries ++ more) t ≡ code_of entries t)
still_own [] more t h = absurd cc
still_own (e ∷ entries) more t h = by_first (bytes_eq t e) refl (still_own entries more t)
  where
    by_first : (b : Bool) → b ≡ bytes_eq t e → (is_entry entries t ≡ true → (is_entry (entries ++ more) t ≡ true) × (code_of (entries ++ more) t ≡ code_of entries t)) → (is_entry (e ∷ (entries ++ more)) t ≡ true) × (code_of (e ∷ (entries ++ more)) t ≡ code_of (e ∷ entries) t)
    by_first true f ih = rw (← f) (refl, refl)
    by_first false f ih =
        let later : is_entry entries t ≡ true = ap (λ (b : Bool). b || is_entry entries t) f ∙ h in
        let r = ih later in
        rw (← f) (r.0, ap (λ (n : ℕ). 1 + n) r.1)

-- a text that is none goes last
last_own : (entries : List (List ℕ)) (t : List ℕ) → is_entry entries t ≡ false → (is_entry (entries ++ t ∷ []) t ≡ true) × (code_of (entries ++ t ∷ []) t ≡ length entries)
last_own [] t h = let s = same_text t in rw s (refl, refl)
last_own (e ∷ entries) t h = by_first (bytes_eq t e) refl (last_own entries t)
  where
    by_first : (b : Bool) → b ≡ bytes_eq t e → (is_entry entries t ≡ false → (is_entry (entries ++ t ∷ []) t ≡ true) × (code_of (entries ++ t ∷ []) t ≡ length entries)) → (is_entry (e ∷ (entries ++ t ∷ [])) t ≡ true) × (code_of (e ∷ (entries ++ t ∷ [])) t ≡ length (e ∷ entries))
    by_first true f ih = absurd (let g : true ≡ false = ap (λ (b : Bool). b || is_entry entries t) f ∙ h in cc)
    by_first false f ih =
        let later : is_entry entries t ≡ false = ap (λ (b : Bool). b || is_entry entries t) f ∙ h in
        let r = ih later in
        rw (← f) (r.0, omega (arith, r.1))

pub own_more : (entries : List (List ℕ)) (t : List ℕ) → AreOwn entries → is_entry entries t ≡ false → AreOwn (entries ++ t ∷ [])
own_more entries t own new k h =
    elim (cases_lt k (length entries)) [
      | inl lt ↦
          let item = front_item entries (t ∷ []) k lt in
          let o = own k lt in
          let s = still_own entries (t ∷ []) (get_or entries k []) o.0 in
          rw item (s.0, s.1 ∙ o.1)
      | inr le ↦
          let at : k ≡ length entries = omega (arith, length-append entries (t ∷ [])) in
          let item : get_or (entries ++ t ∷ []) k [] ≡ t = ap (λ (n : ℕ). get_or (entries ++ t ∷ []) n []) at ∙ next_item entries t [] in
          let s = last_own entries t new in
          rw item (s.0, s.1 ∙ sym at)
    ]

-- ---- codes

used_grows : (n : ℕ) (codes : List ℕ) (total : ℕ) → used_behind n codes ≡ Some total → n ≤ total
used_grows n [] total e = let same : n ≡ total = cc in omega arith
used_grows n (code ∷ codes) total e = by_late (ltb n code) (code == n) e (λ m f. used_grows m codes total f)
  where
    by_late : (late new : Bool) → cond late None (used_behind (cond new (n + 1) n) codes) ≡ Some total → ((m : ℕ) → used_behind m codes ≡ Some total → m ≤ total) → n ≤ total
    by_late true new e ih = absurd cc
    by_late false true e ih = omega (arith, ih (n + 1) e)
    by_late false false e ih = ih n e

abbrev pub items : List (List ℕ) → List ℕ → List (List ℕ)
items all codes = map (λ c. get_or all c []) codes

-- codes that use all entries in their order are those of the texts that they stand for
abbrev pub UsedBack : List ℕ → List (List ℕ) → Type 0
UsedBack codes all = (entries more : List (List ℕ)) → all ≡ entries ++ more → AreNew entries more → AreOwn entries → used_behind (length entries) codes ≡ Some (length all) → (entries_behind entries (items all codes) ≡ all) × (codes_behind entries (items all codes) ≡ codes)

next_used : (code : ℕ) (codes : List ℕ) (entries more all : List (List ℕ)) → UsedBack codes all → all ≡ entries ++ more → AreNew entries more → AreOwn entries → code ≡ length entries → used_behind (length entries + 1) codes ≡ Some (length all) → (entries_behind entries (items all (code ∷ codes)) ≡ all) × (codes_behind entries (items all (code ∷ codes)) ≡ code ∷ codes)
next_used code codes entries [] all ih is new own at e = absurd (omega (arith, used_grows (length entries + 1) codes (length all) e, ap length is, length-append entries []))
next_used code codes entries (t ∷ more) all ih is new own at e =
    let item : get_or all code [] ≡ t = ap (λ (n : ℕ). get_or all n []) at ∙ ap (λ (l : List (List ℕ)). get_or l (length entries) []) is ∙ next_item entries t more in
    let longer : with_entry entries (get_or all code []) ≡ entries ++ t ∷ [] = rw (item, new.0) refl in
    let code_is : code_of entries (get_or all code []) ≡ code = rw item (place_of entries t false (sym new.0) ∙ sym at) in
    let n : length entries + 1 ≡ length (entries ++ t ∷ []) = omega (arith, length-append entries (t ∷ [])) in
    let r = ih (entries ++ t ∷ []) more (is ∙ sym (append_assoc entries (t ∷ []) more)) new.2 (own_more entries t own new.0) (ap (λ (k : ℕ). used_behind k codes) (sym n) ∙ e) in (
      ap (λ (es : List (List ℕ)). entries_behind es (items all codes)) longer ∙ r.0,
      ap (λ (es : List (List ℕ)). code_of entries (get_or all code []) ∷ codes_behind es (items all codes)) longer
          ∙ ap (λ (k : ℕ). k ∷ codes_behind (entries ++ t ∷ []) (items all codes)) code_is
          ∙ ap (λ (l : List ℕ). code ∷ l) r.1,
    )

by_late : (late fresh : Bool) (code : ℕ) (codes : List ℕ) (entries more all : List (List ℕ)) → UsedBack codes all → late ≡ ltb (length entries) code → fresh ≡ (code == length entries) → all ≡ entries ++ more → AreNew entries more → AreOwn entries
    → cond late None (used_behind (cond fresh (length entries + 1) (length entries)) codes) ≡ Some (length all) → (entries_behind entries (items all (code ∷ codes)) ≡ all) × (codes_behind entries (items all (code ∷ codes)) ≡ code ∷ codes)
by_late true fresh code codes entries more all ih f g is new own e = absurd cc
by_late false true code codes entries more all ih f g is new own e = next_used code codes entries more all ih is new own (eqb-true code (length entries) (sym g)) e
by_late false false code codes entries more all ih f g is new own e =
    let most : code ≤ length entries = ltb-false (length entries) code (sym f) in
    let apart : code ≡ length entries → ⊥ = eqb-false code (length entries) (sym g) in
    let below : code < length entries = omega arith in
    let item : get_or all code [] ≡ get_or entries code [] = ap (λ (l : List (List ℕ)). get_or l code []) is ∙ front_item entries more code below in
    let o = own code below in
    let stays : with_entry entries (get_or all code []) ≡ entries = rw (item, o.0) refl in
    let code_is : code_of entries (get_or all code []) ≡ code = rw item o.1 in
    let r = ih entries more is new own e in (
      ap (λ (es : List (List ℕ)). entries_behind es (items all codes)) stays ∙ r.0,
      ap (λ (es : List (List ℕ)). code_of entries (get_or all code []) ∷ codes_behind es (items all codes)) stays
          ∙ ap (λ (k : ℕ). k ∷ codes_behind entries (items all codes)) code_is
          ∙ ap (λ (l : List ℕ). code ∷ l) r.1,
    )

pub used_back : (codes : List ℕ) (all entries more : List (List ℕ)) → all ≡ entries ++ more → AreNew entries more → AreOwn entries → used_behind (length entries) codes ≡ Some (length all) → (entries_behind entries (items all codes) ≡ all) × (codes_behind entries (items all codes) ≡ codes)
used_back [] all entries [] is new own e = (sym (append-nil entries) ∙ sym is, refl)
used_back [] all entries (t ∷ more) is new own e = absurd (let same : length entries ≡ length all = cc in omega (arith, ap length is, length-append entries (t ∷ more)))
used_back (code ∷ codes) all entries more is new own e =
    by_late (ltb (length entries) code) (code == length entries) code codes entries more all (λ es ms. used_back codes all es ms) refl refl is new own e

-- ---- reading

text_is : (v : Value) → IsPlain types.Text v → (plain_bytes v ≡ entry_bytes (text_of v)) × IsText (text_of v)
text_is (variants.Text t) h = (refl, h)
text_is v h = absurd h

-- an entry that was read
record EntryTaken (entries : List (List ℕ)) (old new : Place) (longer : List (List ℕ)) : Type 0 where
  text : List ℕ
  is : longer ≡ entries ++ text ∷ []
  fresh : is_entry entries text ≡ false
  good : IsText text
  takes : Takes old new (entry_bytes text)

entry_taken : (entries : List (List ℕ)) (p : Place) (x : List (List ℕ) × Place) → IsBytes p.rest → entry_at entries p ≡ Ok x → EntryTaken entries p x.1 x.0
unfolding entry_at
entry_taken entries p x fits e =
    let b = bind_ok (text_at p) (λ text. cond (is_entry entries (text_of text.0)) (Err p.at) (Ok (entries ++ text_of text.0 ∷ [], text.1))) x e in
    let v = value_takes types.Text p b.0 fits b.1 in
    let t = text_is b.0.0 v.plain in
    let g = guard_ok (is_entry entries (text_of b.0.0)) p.at (entries ++ text_of b.0.0 ∷ [], b.0.1) x b.2 in
    subst (λ (y : List (List ℕ) × Place). EntryTaken entries p y.1 y.0) g.1
    (record { text = text_of b.0.0; is = refl; fresh = g.0; good = t.1; takes = subst (λ (bytes : List ℕ). Takes p b.0.1 bytes) t.0 v.takes })

record EntriesTaken (entries : List (List ℕ)) (n : ℕ) (old new : Place) (all : List (List ℕ)) : Type 0 where
  more : List (List ℕ)
  is : all ≡ entries ++ more
  len : length more ≡ n
  fresh : AreNew entries more
  takes : Takes old new (flat_map entry_bytes more)

entries_taken : (n : ℕ) (entries : List (List ℕ)) (p : Place) (x : List (List ℕ) × Place) → IsBytes p.rest → entries_at n entries p ≡ Ok x → EntriesTaken entries n p x.1 x.0
entries_taken zero entries p x fits e =
    let same : (entries, p) ≡ x = cc in
    subst (λ (y : List (List ℕ) × Place). EntriesTaken entries zero p y.1 y.0) same
    (record { more = []; is = sym (append-nil entries); len = refl; fresh = tt; takes = record { passes = record { rest = refl; at = omega arith }; left = fits } })
entries_taken (suc n) entries p x fits e =
    let b = bind_ok (entry_at entries p) (λ more. entries_at n more.0 more.1) x e in
    let t = entry_taken entries p b.0 fits b.1 in
    let u = entries_taken n b.0.0 b.0.1 x t.takes.left b.2 in
    record {
      more = t.text ∷ u.more;
      is = u.is ∙ ap (λ (l : List (List ℕ)). l ++ u.more) t.is ∙ append_assoc entries (t.text ∷ []) u.more;
      len = omega (arith, u.len);
      fresh = (t.fresh, t.good, subst (λ (l : List (List ℕ)). AreNew l u.more) t.is u.fresh);
      takes = Takes-then p b.0.1 x.1 (entry_bytes t.text) (flat_map entry_bytes u.more) t.takes u.takes;
    }

all_used_is : (n : ℕ) (used : Option ℕ) → are_all_used n used ≡ true → used ≡ Some n
all_used_is n None e = absurd cc
all_used_is n (Some m) e = ap (λ (k : ℕ). Some k) (eqb-true m n e)

-- the codes that were read, from which bytes
record CodesTaken (entries : List (List ℕ)) (width count : ℕ) (old new : Place) (values : List Value) : Type 0 where
  text : List ℕ
  codes : List ℕ
  fits : IsBytes text
  len : length text ≡ byte_count (width * count)
  takes : Takes old new text
  found : numbers_in width count text ≡ Some codes
  used : used_behind 0 codes ≡ Some (length entries)
  back : map (text_with entries) codes ≡ values

with_codes : (entries : List (List ℕ)) (width count : ℕ) (old new : Place) (text : List ℕ) (o : Option (List ℕ)) (values : List Value) → IsBytes text → length text ≡ byte_count (width * count) → Takes old new text → numbers_in width count text ≡ o → texts_with entries o ≡ Some values → CodesTaken entries width count old new values
with_codes entries width count old new text None values fits len takes f e = absurd cc
with_codes entries width count old new text (Some codes) values fits len takes f e =
    let c = chosen (are_all_used (length entries) (used_behind 0 codes)) (map (text_with entries) codes) values e in
    record { text = text; codes = codes; fits = fits; len = len; takes = takes; found = f; used = all_used_is (length entries) (used_behind 0 codes) c.0; back = c.1 }

codes_taken : (entries : List (List ℕ)) (width count : ℕ) (p : Place) (x : List Value × Place) → IsBytes p.rest → codes_at entries width count p ≡ Ok x → CodesTaken entries width count p x.1 x.0
unfolding codes_at
codes_taken entries width count p x fits e =
    let b = bind_ok (bytes_at (byte_count (width * count)) p) (λ bytes. or_fault p.at (texts_with entries (numbers_in width count bytes.0)) >>= λ texts. done (texts, bytes.1)) x e in
    let t = bytes_takes (byte_count (width * count)) p b.0 fits b.1 in
    let d = bind_ok (or_fault p.at (texts_with entries (numbers_in width count b.0.0))) (λ texts. done (texts, b.0.1)) x b.2 in
    subst (λ (y : List Value × Place). CodesTaken entries width count p y.1 y.0) (ok_is (d.0, b.0.1) x d.2)
    (with_codes entries width count p b.0.1 b.0.0 (numbers_in width count b.0.0) d.0 (bytes_front (byte_count (width * count)) p b.0 fits b.1) t.1 t.0 refl (fault_none p.at _ d.0 d.1))

record WidthTaken (entries : List (List ℕ)) (count : ℕ) (old new : Place) (values : List Value) : Type 0 where
  middle : Place
  takes : Takes old middle (code_width (length entries) ∷ [])
  rest : CodesTaken entries (code_width (length entries)) count middle new values

width_taken : (entries : List (List ℕ)) (count : ℕ) (p : Place) (x : List Value × Place) → IsBytes p.rest → width_at entries count p ≡ Ok x → WidthTaken entries count p x.1 x.0
unfolding width_at
width_taken entries count p x fits e =
    let b = bind_ok (number_at w8 p) (λ width. cond (width.0 == code_width (length entries)) (Ok width) (Err p.at) >>= λ fitting. codes_at entries fitting.0 count fitting.1) x e in
    let u = number_takes w8 wide8 p b.0 fits b.1 in
    let g = bind_ok (cond (b.0.0 == code_width (length entries)) (Ok b.0) (Err p.at)) (λ fitting. codes_at entries fitting.0 count fitting.1) x b.2 in
    let same = chosen_ok (b.0.0 == code_width (length entries)) p.at b.0 g.0 g.1 in
    let width_is : b.0.0 ≡ code_width (length entries) = eqb-true b.0.0 (code_width (length entries)) same.0 in
    let read : codes_at entries b.0.0 count b.0.1 ≡ Ok x = subst (λ (w : ℕ × Place). codes_at entries w.0 count w.1 ≡ Ok x) (sym same.1) g.2 in
    let width_bytes : Takes p b.0.1 (b.0.0 ∷ []) = subst (λ (k : ℕ). Takes p b.0.1 (k ∷ [])) (low_byte b.0.0 u.1) u.0 in
    record {
      middle = b.0.1;
      takes = subst (λ (w : ℕ). Takes p b.0.1 (w ∷ [])) width_is width_bytes;
      rest = subst (λ (w : ℕ). CodesTaken entries w count b.0.1 x.1 x.0) width_is (codes_taken entries b.0.0 count b.0.1 x u.0.left read);
    }

record TextsTaken (count : ℕ) (old new : Place) (values : List Value) : Type 0 where
  entries : List (List ℕ)
  few : length entries < 2 ^ 16
  first : Place
  second : Place
  number : Takes old first (to_le_bytes w16 (length entries))
  fresh : AreNew [] entries
  takes : Takes first second (flat_map entry_bytes entries)
  rest : WidthTaken entries count second new values

texts_taken : (count : ℕ) (p : Place) (x : List Value × Place) → IsBytes p.rest → texts_at count p ≡ Ok x → TextsTaken count p x.1 x.0
unfolding texts_at
texts_taken count p x fits e =
    let b = bind_ok (number_at w16 p) (λ n. cond (n.0 == 0) (Err p.at) (Ok n) >>= λ some. entries_at some.0 [] some.1 >>= λ entries. width_at entries.0 count entries.1) x e in
    let t = number_takes w16 wide16 p b.0 fits b.1 in
    let g = bind_ok (cond (b.0.0 == 0) (Err p.at) (Ok b.0)) (λ some. entries_at some.0 [] some.1 >>= λ entries. width_at entries.0 count entries.1) x b.2 in
    let same = guard_ok (b.0.0 == 0) p.at b.0 g.0 g.1 in
    let read : (entries_at b.0.0 [] b.0.1 >>= λ entries. width_at entries.0 count entries.1) ≡ Ok x =
    subst (λ (n : ℕ × Place). (entries_at n.0 [] n.1 >>= λ entries. width_at entries.0 count entries.1) ≡ Ok x) (sym same.1) g.2 in
    let d = bind_ok (entries_at b.0.0 [] b.0.1) (λ entries. width_at entries.0 count entries.1) x read in
    let u = entries_taken b.0.0 [] b.0.1 d.0 t.0.left d.1 in
    let len : length d.0.0 ≡ b.0.0 = ap length u.is ∙ u.len in
    record {
      entries = d.0.0;
      few = subst (λ (n : ℕ). n < 2 ^ 16) (sym len) t.1;
      first = b.0.1;
      second = d.0.1;
      number = subst (λ (n : ℕ). Takes p b.0.1 (to_le_bytes w16 n)) (sym len) t.0;
      fresh = subst (λ (l : List (List ℕ)). AreNew [] l) (sym u.is) u.fresh;
      takes = subst (λ (l : List (List ℕ)). Takes b.0.1 d.0.1 (flat_map entry_bytes l)) (sym u.is) u.takes;
      rest = width_taken d.0.0 count d.0.1 x u.takes.left d.2;
    }

good_item : (entries more : List (List ℕ)) (k : ℕ) → AreNew entries more → IsText (get_or more k [])
good_item entries [] k h = (omega arith, IsUtf8-nil)
good_item entries (t ∷ more) zero h = h.1
good_item entries (t ∷ more) (suc k) h = good_item (entries ++ t ∷ []) more k h.2

all_plain : (entries : List (List ℕ)) (codes : List ℕ) → AreNew [] entries → AllByRecursion (IsPlain types.Text) (map (text_with entries) codes)
all_plain entries [] h = tt
all_plain entries (code ∷ codes) h = (good_item [] entries code h, all_plain entries codes h)

texts_of_items : (entries : List (List ℕ)) (codes : List ℕ) → map text_of (map (text_with entries) codes) ≡ items entries codes
texts_of_items entries [] = refl
texts_of_items entries (code ∷ codes) = ap (λ (l : List (List ℕ)). get_or entries code [] ∷ l) (texts_of_items entries codes)

items_len : (entries : List (List ℕ)) (codes : List ℕ) → length (map (text_with entries) codes) ≡ length codes
items_len entries [] = refl
items_len entries (code ∷ codes) = let ih = items_len entries codes in omega (arith, ih)

-- the fields that were read are those of the values' body
fields_are : (count : ℕ) (p q : Place) (values : List Value) → TextsTaken count p q values → (length values ≡ count) × AllByRecursion (IsPlain types.Text) values × (length (entries_of (map text_of values)) < 2 ^ 16) × Takes p q (dictionary_bytes values)
fields_are count p q values t =
    let c = t.rest.rest in
    let width : ℕ = code_width (length t.entries) in
    let f = found_packed width count c.text c.codes c.fits c.len c.found in
    let none : AreOwn [] = λ k h. absurd (omega arith) in
    let r = used_back c.codes t.entries [] t.entries refl t.fresh none c.used in
    let texts_are : map text_of values ≡ items t.entries c.codes = ap (map text_of) (sym c.back) ∙ texts_of_items t.entries c.codes in
    let entries_are : entries_of (map text_of values) ≡ t.entries = ap entries_of texts_are ∙ r.0 in
    let codes_are : codes_behind [] (map text_of values) ≡ c.codes = ap (codes_behind []) texts_are ∙ r.1 in
    let body : to_le_bytes w16 (length t.entries) ++ (flat_map entry_bytes t.entries ++ ((width ∷ []) ++ c.text)) ≡ dictionary_bytes values =
    ap (λ (text : List ℕ). to_le_bytes w16 (length t.entries) ++ (flat_map entry_bytes t.entries ++ (width ∷ text))) (sym f.0)
    ∙ ap (λ (es : List (List ℕ)). body_with es c.codes) (sym entries_are)
    ∙ ap (λ (cs : List ℕ). body_with (entries_of (map text_of values)) cs) (sym codes_are) in
    let tail = Takes-then t.second t.rest.middle q (width ∷ []) c.text t.rest.takes c.takes in
    let behind_count = Takes-then t.first t.second q (flat_map entry_bytes t.entries) ((width ∷ []) ++ c.text) t.takes tail in
    let whole_body = Takes-then p t.first q (to_le_bytes w16 (length t.entries)) (flat_map entry_bytes t.entries ++ ((width ∷ []) ++ c.text)) t.number behind_count in (
      ap length (sym c.back) ∙ items_len t.entries c.codes ∙ f.1,
      subst (λ (vs : List Value). AllByRecursion (IsPlain types.Text) vs) c.back (all_plain t.entries c.codes t.fresh),
      subst (λ (es : List (List ℕ)). length es < 2 ^ 16) (sym entries_are) t.few,
      subst (λ (bytes : List ℕ). Takes p q bytes) body whole_body,
    )

text_fact : (kind : ColType) → not (is_text kind) ≡ false → kind ≡ types.Text
text_fact types.Text e = refl
text_fact types.Bool e = absurd cc
text_fact types.Int e = absurd cc
text_fact types.Big e = absurd cc

pub body_taken : (kind : ColType) (count : ℕ) (bytes : List ℕ) (values : List Value) → IsBytes bytes → dictionary_at kind count bytes ≡ Ok values
    → IsBody (IsDictionary kind) dictionary_bytes count bytes values
unfolding dictionary_at
body_taken kind count bytes values fits e =
    let p = passed_ok ((count == 0) || not (is_text kind)) 0 (whole (texts_at count (start bytes))) values e in
    let tests = or_parts (count == 0) (not (is_text kind)) p.0 in
    let w = whole_ok (texts_at count (start bytes)) values p.1 in
    let t = texts_taken count (start bytes) (values, w.behind) fits w.told in
    let f = fields_are count (start bytes) w.behind values t in
    let spelled : bytes ≡ dictionary_bytes values = f.3.passes.rest ∙ ap (λ (rest : List ℕ). dictionary_bytes values ++ rest) w.used ∙ append-nil (dictionary_bytes values) in
    let lawful : IsDictionary kind values = record {
      text = text_fact kind tests.1;
      some = some_items count (length values) f.0 tests.0;
      plain = f.1;
      few = f.2;
    } in
    record { total = f.0; lawful = lawful; spelled = spelled }
