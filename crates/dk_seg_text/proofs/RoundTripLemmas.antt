-- What was written is read again.
use Rattle.std.proofs.Common.{◌≡◌, ℕ, ◌+◌, ◌-◌, ◌*◌, ◌<◌, ◌≤◌, ◌^◌, ◌==◌, Bool, true, false, cond, List, [], ◌∷◌, ◌++◌, map, length, Option, Some, Result, Ok, Err, refl, sym, ap, subst, ◌∙◌, append_assoc, append-nil, arith, length-append}
use Rattle.dk_seg_text.proofs.DecodeLemmas.{body_taken}
use Rattle.dk_bytes.specs.Bodies.{IsCodec}
use Rattle.dk_bytes.proofs.PackingLemmas.{packed_again}
use Rattle.std.specs.List.{AllByRecursion, flat_map}
use Rattle.std.specs.Int.{w8, w16, to_le_bytes}
use Rattle.std.proofs.lemmas.Bool.{eq-eqb, ne_eqb}
use Rattle.dk_values.specs.declared.value.ColType.{ColType}
use Rattle.dk_values.specs.declared.value.ColType.TheVariants as types
use Rattle.dk_values.specs.declared.value.Value.{Value}
use Rattle.dk_values.specs.declared.value.Value.TheVariants as variants
use Rattle.dk_bytes.specs.Fields.{Place, bytes_at, number_at}
use Rattle.dk_bytes.specs.Reading.{start, or_fault}
use Rattle.dk_bytes.specs.PlainValue.{IsPlain}
use Rattle.dk_bytes.proofs.NumberLemmas.{bind_at, low_byte, wide8, wide16, bytes_again, number_again}
use Rattle.dk_bytes.proofs.PlainValueLemmas.{value_again}
use Rattle.dk_bytes.proofs.OutcomeLemmas.{whole_at}
use Rattle.dk_bytes.specs.Bits.{byte_count, packed, numbers_in}
use Rattle.dk_bytes.proofs.DigitLemmas.{length-digits}
use Rattle.dk_bytes.proofs.WidthLemmas.{width_fits, width_most}
use Rattle.dk_seg_text.specs.Dictionary.{IsShort, text_of, is_entry, entries_of, codes_behind, code_width, entry_bytes, dictionary_bytes, IsDictionary, entry_at, entries_at, used_behind, are_all_used, text_with, texts_with, codes_at, width_at, texts_at, dictionary_at}
use Rattle.dk_seg_text.proofs.CodeLemmas.{grown, codes_below, fit_width}
use Rattle.dk_seg_text.proofs.MeasureLemmas.{codes_len, map_length}
use Rattle.dk_seg_text.proofs.EntryLemmas.{IsText, AreNew, extended, all_used, texts_back, new_short}

entry_again : (entries : List (List ℕ)) (t rest : List ℕ) (at : ℕ) → is_entry entries t ≡ false → IsText t → entry_at entries (record { at = at; rest = entry_bytes t ++ rest }) ≡ Ok (entries ++ t ∷ [], record { at = at + length (entry_bytes t); rest = rest })
unfolding entry_at
entry_again entries t rest at new h = bind_at {A = Value × Place} _ _ (variants.Text t, record { at = at + length (entry_bytes t); rest = rest }) _ (value_again types.Text (variants.Text t) rest at h) (rw new refl)

entries_again : (entries more : List (List ℕ)) (rest : List ℕ) (at : ℕ) → AreNew entries more → entries_at (length more) entries (record { at = at; rest = flat_map entry_bytes more ++ rest }) ≡ Ok (entries ++ more, record { at = at + length (flat_map entry_bytes more); rest = rest })
entries_again entries [] rest at h = let e : at + 0 ≡ at = omega arith in rw (append-nil, e) refl
entries_again entries (t ∷ more) rest at h =
    let ih = entries_again (entries ++ t ∷ []) more rest (at + length (entry_bytes t)) h.2 in
    let e : at + length (entry_bytes t) + length (flat_map entry_bytes more) ≡ at + length (entry_bytes t ++ flat_map entry_bytes more) = omega (arith, length-append (entry_bytes t) (flat_map entry_bytes more)) in
    rw (append_assoc (entry_bytes t) (flat_map entry_bytes more) rest, entry_again entries t (flat_map entry_bytes more ++ rest) at h.0 h.1, ih, e, append_assoc entries (t ∷ []) more) refl

codes_again : (entries : List (List ℕ)) (width count at : ℕ) (text codes : List ℕ) (values : List Value) → length text ≡ byte_count (width * count) → numbers_in width count text ≡ Some codes → texts_with entries (Some codes) ≡ Some values
    → codes_at entries width count (record { at = at; rest = text }) ≡ Ok (values, record { at = at + length text; rest = [] })
unfolding codes_at
codes_again entries width count at text codes values len found e =
    let P : ℕ → List ℕ → Type 0 = λ n rest. bytes_at n (record { at = at; rest = rest }) ≡ Ok (text, record { at = at + length text; rest = [] }) in
    let all : P (byte_count (width * count)) text =
    subst (λ (n : ℕ). P n text) len (subst (λ (rest : List ℕ). P (length text) rest) (append-nil text) (bytes_again text [] at)) in
    bind_at {A = List ℕ × Place} _ _ (text, record { at = at + length text; rest = [] }) _ all
    (bind_at _ _ values _ (ap (λ (o : Option (List Value)). or_fault at o) (ap (λ (o : Option (List ℕ)). texts_with entries o) found ∙ e)) refl)

chosen_at : {A : Type 0} (b : Bool) (d : ℕ) (x : Result A ℕ) → b ≡ true → cond b x (Err d) ≡ x
chosen_at true d x e = refl
chosen_at false d x e = absurd cc

width_again : (entries : List (List ℕ)) (count at width : ℕ) (text codes : List ℕ) (values : List Value) → width ≡ code_width (length entries) → width ≤ 64 → length text ≡ byte_count (width * count) → numbers_in width count text ≡ Some codes → texts_with entries (Some codes) ≡ Some values
    → width_at entries count (record { at = at; rest = width ∷ text }) ≡ Ok (values, record { at = at + 1 + length text; rest = [] })
unfolding width_at
width_again entries count at width text codes values same most len found e =
    let P : ℕ → Type 0 = λ w. number_at w8 (record { at = at; rest = w ∷ text }) ≡ Ok (width, record { at = at + 1; rest = text }) in
    let width_is : P width = subst P (low_byte width (omega arith)) (number_again w8 wide8 width text at (omega arith)) in
    bind_at {A = ℕ × Place} _ _ (width, record { at = at + 1; rest = text }) _ width_is
    (bind_at {A = ℕ × Place} _ _ (width, record { at = at + 1; rest = text }) _ (chosen_at (width == code_width (length entries)) at _ (eq-eqb _ _ same))
    (codes_again entries width count (at + 1) text codes values len found e))

guard_at : {A : Type 0} (b : Bool) (d : ℕ) (x : Result A ℕ) → b ≡ false → cond b (Err d) x ≡ x
guard_at true d x e = absurd cc
guard_at false d x e = refl

texts_again : (entries : List (List ℕ)) (count width : ℕ) (text codes : List ℕ) (values : List Value) → AreNew [] entries → 0 < length entries → length entries < 2 ^ 16 → width ≡ code_width (length entries) → width ≤ 64 → length text ≡ byte_count (width * count) → numbers_in width count text ≡ Some codes → texts_with entries (Some codes) ≡ Some values
    → texts_at count (start (to_le_bytes w16 (length entries) ++ (flat_map entry_bytes entries ++ (width ∷ text)))) ≡ Ok (values, record { at = 2 + length (flat_map entry_bytes entries) + 1 + length text; rest = [] })
unfolding texts_at
texts_again entries count width text codes values new some few same most len found e =
    let n : ℕ = length entries in
    let rest : List ℕ = flat_map entry_bytes entries ++ (width ∷ text) in
    bind_at {A = ℕ × Place} _ _ (n, record { at = 2; rest = rest }) _ (number_again w16 wide16 n rest 0 few)
    (bind_at {A = ℕ × Place} _ _ (n, record { at = 2; rest = rest }) _ (guard_at (n == 0) 0 _ (ne_eqb n 0 (λ z. omega (arith, some))))
    (bind_at {A = List (List ℕ) × Place} _ _ (entries, record { at = 2 + length (flat_map entry_bytes entries); rest = width ∷ text }) _ (entries_again [] entries (width ∷ text) 2 new)
    (width_again entries count (2 + length (flat_map entry_bytes entries)) width text codes values same most len found e)))

all_texts : (values : List Value) → AllByRecursion (IsPlain types.Text) values → AllByRecursion IsText (map text_of values)
all_texts [] h = tt
all_texts (variants.Text t ∷ values) h = (h.0, all_texts values h.1)
all_texts (v ∷ values) h = absurd h.0

values_are : (values : List Value) → AllByRecursion (IsPlain types.Text) values → map (λ t. variants.Text t) (map text_of values) ≡ values
values_are [] h = refl
values_are (variants.Text t ∷ values) h = ap (λ (l : List Value). variants.Text t ∷ l) (values_are values h.1)
values_are (v ∷ values) h = absurd h.0

some_entries : (texts : List (List ℕ)) → 0 < length texts → 0 < length (entries_of texts)
some_entries [] h = absurd (omega arith)
some_entries (t ∷ texts) h = omega (arith, grown (t ∷ []) texts)

all_texts_with : (entries : List (List ℕ)) (codes : List ℕ) (values : List Value) → used_behind 0 codes ≡ Some (length entries) → map (text_with entries) codes ≡ values → texts_with entries (Some codes) ≡ Some values
all_texts_with entries codes values used back =
    let test : are_all_used (length entries) (used_behind 0 codes) ≡ true = ap (are_all_used (length entries)) used ∙ eq-eqb (length entries) (length entries) refl in
    rw (test, back) refl

body_again : (values : List Value) → IsDictionary types.Text values → dictionary_at types.Text (length values) (dictionary_bytes values) ≡ Ok values
unfolding dictionary_at
body_again values h =
    let texts : List (List ℕ) = map text_of values in
    let entries : List (List ℕ) = entries_of texts in
    let codes : List ℕ = codes_behind [] texts in
    let width : ℕ = code_width (length entries) in
    let plain = all_texts values h.plain in
    let x = extended [] texts plain in
    let new : AreNew [] entries = subst (λ (es : List (List ℕ)). AreNew [] es) (sym x.is) x.new in
    let same_len : length codes ≡ length values = codes_len [] texts ∙ map_length values in
    let some = some_entries texts (omega (arith, h.some, map_length values)) in
    let fits = fit_width (length entries) width codes (λ _. width_fits (length entries - 1) (omega (arith, h.few))) (codes_below [] texts) in
    let found : numbers_in width (length values) (packed width codes) ≡ Some codes =
    subst (λ (n : ℕ). numbers_in width n (packed width codes) ≡ Some codes) same_len (packed_again width codes fits) in
    let len : length (packed width codes) ≡ byte_count (width * length values) = length-digits 256 _ _ ∙ ap (λ (n : ℕ). byte_count (width * n)) same_len in
    let back : map (text_with entries) codes ≡ values = texts_back [] texts plain ∙ values_are values h.plain in
    let read = texts_again entries (length values) width (packed width codes) codes values new some h.few refl (width_most _) len found (all_texts_with entries codes values (all_used [] texts) back) in
    let some_values : (length values == 0) ≡ false = ne_eqb _ _ (λ z. omega (arith, h.some)) in
    rw some_values (whole_at (texts_at (length values) (start (dictionary_bytes values))) values _ read)

typed_again : (kind : ColType) (values : List Value) → IsDictionary kind values → dictionary_at kind (length values) (dictionary_bytes values) ≡ Ok values
typed_again kind values h =
    let P : ColType → Type 0 = λ k. dictionary_at k (length values) (dictionary_bytes values) ≡ Ok values in
    let text : IsDictionary types.Text values = record { text = refl; some = h.some; plain = h.plain; few = h.few } in
    subst P (sym h.text) (body_again values text)

-- the entries of texts are short
pub entries_short : (values : List Value) → AllByRecursion (IsPlain types.Text) values → AllByRecursion IsShort (entries_of (map text_of values))
entries_short values plain =
    let x = extended [] (map text_of values) (all_texts values plain) in
    subst (λ (es : List (List ℕ)). AllByRecursion IsShort es) (sym x.is) (new_short [] x.more x.new)

pub dictionary_codec : (kind : ColType) → IsCodec (dictionary_at kind) (IsDictionary kind) dictionary_bytes
dictionary_codec kind = record { takes = λ count bytes values fits small e. body_taken kind count bytes values fits e; again = typed_again kind }
