-- Entries that come one after the other, none of them twice, and what codes say of them.
use Rattle.std.proofs.Common.{◌≡◌, ℕ, zero, suc, ◌+◌, ◌<◌, ◌^◌, ◌==◌, Bool, true, false, ◌||◌, ltb, bytes_eq, IsUtf8, List, [], ◌∷◌, ◌++◌, map, length, get_or, Some, refl, sym, ap, subst, ◌∙◌, append_assoc, append-nil, arith, length-append}
use Rattle.std.specs.List.{AllByRecursion}
use Rattle.std.specs.Prelude.{slice_index_or}
use Rattle.std.proofs.lemmas.Bool.{le-ltb, eq-eqb, ne_eqb}
use Rattle.std.proofs.lemmas.Slice.Eq.{bytes_eq-Decides}
use Rattle.dk_values.specs.declared.value.Value.TheVariants as variants
use Rattle.dk_seg_text.specs.Dictionary.{IsShort, is_entry, with_entry, code_of, entries_behind, codes_behind, used_behind, text_with}
use Rattle.dk_seg_text.proofs.CodeLemmas.{place_of, code_below}

-- a text that may be stored
abbrev pub IsText : List ℕ → Type 0
IsText t = (length t < 2 ^ 16) × IsUtf8 t

-- texts that come behind the entries, each of them new
abbrev pub AreNew : List (List ℕ) → List (List ℕ) → Type 0
AreNew entries [] = Unit {0}
AreNew entries (t ∷ more) = (is_entry entries t ≡ false) × IsText t × AreNew (entries ++ t ∷ []) more

-- the entries of texts: those of before, and new ones
pub record Extends (entries all : List (List ℕ)) : Type 0 where
  pub more : List (List ℕ)
  pub is : all ≡ entries ++ more
  pub new : AreNew entries more

pub extended : (entries texts : List (List ℕ)) → AllByRecursion IsText texts → Extends entries (entries_behind entries texts)
extended entries [] h = record { more = []; is = sym (append-nil entries); new = tt }
extended entries (t ∷ texts) h = by_known (is_entry entries t) refl (extended (with_entry entries t) texts h.1)
  where
    by_known : (known : Bool) → known ≡ is_entry entries t → Extends (with_entry entries t) (entries_behind (with_entry entries t) texts) → Extends entries (entries_behind (with_entry entries t) texts)
    by_known true e x =
        let same : with_entry entries t ≡ entries = rw (← e) refl in
        subst (λ (es : List (List ℕ)). Extends es (entries_behind (with_entry entries t) texts)) same x
    by_known false e x =
        let longer : with_entry entries t ≡ entries ++ t ∷ [] = rw (← e) refl in
        let y = subst (λ (es : List (List ℕ)). Extends es (entries_behind (with_entry entries t) texts)) longer x in
        record { more = t ∷ y.more; is = y.is ∙ append_assoc entries (t ∷ []) y.more; new = (sym e, h.0, y.new) }

-- what stands at a place stays there
pub front_item : (entries more : List (List ℕ)) (k : ℕ) → k < length entries → get_or (entries ++ more) k [] ≡ get_or entries k []
front_item [] more k h = absurd (omega arith)
front_item (e ∷ entries) more zero h = refl
front_item (e ∷ entries) more (suc k) h = front_item entries more k (omega arith)

pub next_item : (entries : List (List ℕ)) (t : List ℕ) (more : List (List ℕ)) → get_or (entries ++ t ∷ more) (length entries) [] ≡ t
next_item [] t more = refl
next_item (e ∷ entries) t more = next_item entries t more

-- the text that has the code of a text is that one
found_item : (entries : List (List ℕ)) (t : List ℕ) → is_entry entries t ≡ true → get_or entries (code_of entries t) [] ≡ t
found_item [] t h = absurd cc
found_item (e ∷ entries) t h = by_first (bytes_eq t e) refl (found_item entries t)
  where
    by_first : (b : Bool) → b ≡ bytes_eq t e → (is_entry entries t ≡ true → get_or entries (code_of entries t) [] ≡ t) → get_or (e ∷ entries) (code_of (e ∷ entries) t) [] ≡ t
    by_first true f ih = rw (← f) (sym ((bytes_eq-Decides t e).0 (sym f)))
    by_first false f ih =
        let later : is_entry entries t ≡ true = ap (λ (b : Bool). b || is_entry entries t) f ∙ h in
        let up : 1 + code_of entries t ≡ suc (code_of entries t) = omega arith in
        rw (← f, up) (ih later)

pub own_item : (entries : List (List ℕ)) (t : List ℕ) → get_or (with_entry entries t) (code_of entries t) [] ≡ t
own_item entries t = by_known (is_entry entries t) refl
  where
    by_known : (known : Bool) → known ≡ is_entry entries t → get_or (with_entry entries t) (code_of entries t) [] ≡ t
    by_known true e = rw (← e) (found_item entries t (sym e))
    by_known false e =
        let p : code_of entries t ≡ length entries = place_of entries t false e in
        rw (← e, p) (next_item entries t [])

-- each entry is used, after all before it
pub all_used : (entries texts : List (List ℕ)) → used_behind (length entries) (codes_behind entries texts) ≡ Some (length (entries_behind entries texts))
all_used entries [] = refl
all_used entries (t ∷ texts) = by_known (is_entry entries t) refl (all_used (with_entry entries t) texts)
  where
    by_known : (known : Bool) → known ≡ is_entry entries t → used_behind (length (with_entry entries t)) (codes_behind (with_entry entries t) texts) ≡ Some (length (entries_behind (with_entry entries t) texts)) → used_behind (length entries) (codes_behind entries (t ∷ texts)) ≡ Some (length (entries_behind entries (t ∷ texts)))
    by_known true e ih =
        let p : code_of entries t < length entries = place_of entries t true e in
        let same : length (with_entry entries t) ≡ length entries = rw (← e) refl in
        let not_more : ltb (length entries) (code_of entries t) ≡ false = le-ltb (length entries) (code_of entries t) (omega arith) in
        let old : (code_of entries t == length entries) ≡ false = ne_eqb (code_of entries t) (length entries) (λ q. omega (arith, p, q)) in
        rw (not_more, old) (ap (λ (n : ℕ). used_behind n (codes_behind (with_entry entries t) texts)) (sym same) ∙ ih)
    by_known false e ih =
        let p : code_of entries t ≡ length entries = place_of entries t false e in
        let longer : length (with_entry entries t) ≡ length entries + 1 = rw (← e) (omega (arith, length-append entries (t ∷ []))) in
        let not_more : ltb (length entries) (code_of entries t) ≡ false = le-ltb (length entries) (code_of entries t) (omega arith) in
        let new : (code_of entries t == length entries) ≡ true = eq-eqb (code_of entries t) (length entries) p in
        rw (not_more, new) (ap (λ (n : ℕ). used_behind n (codes_behind (with_entry entries t) texts)) (sym longer) ∙ ih)

-- the codes stand for the texts
pub texts_back : (entries texts : List (List ℕ)) → AllByRecursion IsText texts → map (text_with (entries_behind entries texts)) (codes_behind entries texts) ≡ map (λ t. variants.Text t) texts
texts_back entries [] h = refl
texts_back entries (t ∷ texts) h =
    let all : List (List ℕ) = entries_behind (with_entry entries t) texts in
    let x = extended (with_entry entries t) texts h.1 in
    let below : code_of entries t < length (with_entry entries t) = code_below entries t in
    let item : get_or all (code_of entries t) [] ≡ t =
    ap (λ (es : List (List ℕ)). get_or es (code_of entries t) []) x.is ∙ front_item (with_entry entries t) x.more (code_of entries t) below ∙ own_item entries t in
    rw (item, texts_back (with_entry entries t) texts h.1) refl

-- entries that are new one after the other are short
pub new_short : (entries more : List (List ℕ)) → AreNew entries more → AllByRecursion IsShort more
new_short entries [] h = tt
new_short entries (t ∷ more) h = (h.1.0, new_short (entries ++ t ∷ []) more h.2)

-- and so is each of them, and what stands for none
pub short_at : (entries : List (List ℕ)) (i : ℕ) → AllByRecursion IsShort entries → IsShort (slice_index_or entries i [])
short_at [] i h = omega arith
short_at (t ∷ entries) zero h = h.0
short_at (t ∷ entries) (suc i) h = short_at entries i h.1
