-- Codes of texts among their entries.
use Rattle.std.proofs.Common.{◌≡◌, ℕ, ◌-◌, ◌<◌, ◌≤◌, ◌^◌, Bool, true, false, cond, ◌||◌, bytes_eq, List, [], ◌∷◌, ◌++◌, length, refl, sym, ap, subst, ◌∙◌, arith, length-append}
use Rattle.std.specs.List.{All, AllByRecursion}
use Rattle.std.proofs.lemmas.List.Elements.{All-from_recursion}
use Rattle.dk_bytes.proofs.WidthLemmas.{width_fits}
use Rattle.dk_seg_text.specs.Dictionary.{is_entry, with_entry, code_of, entries_behind, entries_of, codes_behind, code_width}

-- a text that is an entry has the code of one, and another has the next code
pub place_of : (entries : List (List ℕ)) (t : List ℕ) (known : Bool) → known ≡ is_entry entries t → cond known (code_of entries t < length entries) (code_of entries t ≡ length entries)
place_of [] t true e = absurd cc
place_of [] t false e = refl
place_of (x ∷ entries) t known e = by_first (bytes_eq t x) refl known e (λ k f. place_of entries t k f)
  where
    by_first : (b : Bool) → b ≡ bytes_eq t x → (known : Bool) → known ≡ (bytes_eq t x || is_entry entries t) → ((k : Bool) → k ≡ is_entry entries t → cond k (code_of entries t < length entries) (code_of entries t ≡ length entries)) → cond known (code_of (x ∷ entries) t < length (x ∷ entries)) (code_of (x ∷ entries) t ≡ length (x ∷ entries))
    by_first true f true e ih = rw (← f) (omega arith)
    by_first true f false e ih = absurd (let g : false ≡ (true || is_entry entries t) = e ∙ ap (λ (b : Bool). b || is_entry entries t) (sym f) in cc)
    by_first false f true e ih =
        let g : true ≡ is_entry entries t = e ∙ ap (λ (b : Bool). b || is_entry entries t) (sym f) in
        let p : code_of entries t < length entries = ih true g in
        rw (← f) (omega arith)
    by_first false f false e ih =
        let g : false ≡ is_entry entries t = e ∙ ap (λ (b : Bool). b || is_entry entries t) (sym f) in
        let p : code_of entries t ≡ length entries = ih false g in
        rw (← f) (omega arith)

pub code_below : (entries : List (List ℕ)) (t : List ℕ) → code_of entries t < length (with_entry entries t)
code_below entries t = by_known (is_entry entries t) refl
  where
    by_known : (known : Bool) → known ≡ is_entry entries t → code_of entries t < length (with_entry entries t)
    by_known true e = rw (← e) (place_of entries t true e)
    by_known false e =
        let p : code_of entries t ≡ length entries = place_of entries t false e in
        rw (← e) (omega (arith, length-append entries (t ∷ [])))

-- entries stay
grown_one : (entries : List (List ℕ)) (t : List ℕ) → length entries ≤ length (with_entry entries t)
grown_one entries t = by_known (is_entry entries t)
  where
    by_known : (known : Bool) → length entries ≤ length (cond known entries (entries ++ t ∷ []))
    by_known true = omega arith
    by_known false = omega (arith, length-append entries (t ∷ []))

pub grown : (entries texts : List (List ℕ)) → length entries ≤ length (entries_behind entries texts)
grown entries [] = omega arith
grown entries (t ∷ texts) = omega (arith, grown_one entries t, grown (with_entry entries t) texts)

-- each code is that of an entry
pub codes_below : (entries texts : List (List ℕ)) → AllByRecursion (λ code. code < length (entries_behind entries texts)) (codes_behind entries texts)
codes_below entries [] = tt
codes_below entries (t ∷ texts) = (omega (arith, code_below entries t, grown (with_entry entries t) texts), codes_below (with_entry entries t) texts)

pub fit_width : (n width : ℕ) (codes : List ℕ) → (0 < n → n - 1 < 2 ^ width) → AllByRecursion (λ code. code < n) codes → AllByRecursion (λ code. code < 2 ^ width) codes
fit_width n width [] h all = tt
fit_width n width (code ∷ codes) h all = (let some = h (omega (arith, all.0)) in omega (arith, all.0, some), fit_width n width codes h all.1)

-- codes of so many entries have the width of the last one
pub codes_fit : (n width : ℕ) (codes : List ℕ) → n < 2 ^ 64 → width ≡ code_width n → AllByRecursion (λ code. code < n) codes → All (λ code. code < 2 ^ width) codes
codes_fit n width codes h e all =
    let fits : n - 1 < 2 ^ code_width n = width_fits (n - 1) (omega arith) in
    All-from_recursion (λ code. code < 2 ^ width) codes (fit_width n width codes (λ _. subst (λ (w : ℕ). n - 1 < 2 ^ w) (sym e) fits) all)

pub all_codes_below : (texts entries : List (List ℕ)) (codes : List ℕ) (n : ℕ) → entries ≡ entries_of texts → codes ≡ codes_behind [] texts → n ≡ length entries → AllByRecursion (λ code. code < n) codes
all_codes_below texts entries codes n e f g =
    let same : length (entries_of texts) ≡ n = ap length (sym e) ∙ sym g in
    subst (λ (cs : List ℕ). AllByRecursion (λ code. code < n) cs) (sym f)
    (subst (λ (m : ℕ). AllByRecursion (λ code. code < m) (codes_behind [] texts)) same (codes_below [] texts))
