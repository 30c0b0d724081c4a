-- Texts behind references, and the texts themselves.
use Rattle.std.proofs.Common.{◌≡◌, ℕ, suc, ◌+◌, Bool, true, false, cond, ◌||◌, not, bytes_eq, List, [], ◌∷◌, ◌++◌, map, Result, Ok, Err, refl, sym, ap, subst, ◌∙◌}
use Rattle.std.specs.List.{list_any, position_or_len}
use Rattle.dk_bytes.specs.Fields.{Place}
use Rattle.dk_bytes.specs.Reading.{◌>>=◌}
use Rattle.dk_seg_text.specs.Dictionary.{is_entry, with_entry, code_of, entry_at, entries_at}
use Rattle.std.proofs.lemmas.List.{map-append}

-- the text of each key
pub seen_any : {T : Type 0} (now : T → List ℕ) (keys : List T) (t : List ℕ) → list_any (λ k. bytes_eq t (now k)) keys ≡ is_entry (map now keys) t
seen_any now [] t = refl
seen_any now (k ∷ keys) t = ap (λ (b : Bool). bytes_eq t (now k) || b) (seen_any now keys t)

pub seen_code : {T : Type 0} (now : T → List ℕ) (keys : List T) (t : List ℕ) → position_or_len (λ k. bytes_eq t (now k)) keys ≡ code_of (map now keys) t
seen_code now [] t = refl
seen_code now (k ∷ keys) t = ap (λ (n : ℕ). cond (not (bytes_eq t (now k))) (1 + n) 0) (seen_code now keys t)

map_cond : {T : Type 0} (now : T → List ℕ) (b : Bool) (keys : List T) (t : T) → map now (cond b keys (keys ++ t ∷ [])) ≡ cond b (map now keys) (map now keys ++ now t ∷ [])
map_cond now true keys t = refl
map_cond now false keys t = map-append now keys (t ∷ [])

pub seen_keys : {T : Type 0} (now : T → List ℕ) (keys keys' : List T) (t : T) (entries : List (List ℕ)) → map now keys ≡ entries → keys' ≡ cond (list_any (λ k. bytes_eq (now t) (now k)) keys) keys (keys ++ t ∷ []) → map now keys' ≡ with_entry entries (now t)
seen_keys now keys keys' t entries e f =
    ap (map now) f ∙ map_cond now (list_any (λ k. bytes_eq (now t) (now k)) keys) keys t
    ∙ ap (λ (b : Bool). cond b (map now keys) (map now keys ++ now t ∷ [])) (seen_any now keys (now t))
    ∙ ap (λ (l : List (List ℕ)). with_entry l (now t)) e

-- one more entry is read
pub one_entry : (m n : ℕ) (entries entries' : List (List ℕ)) (p q : Place) (all : Result (List (List ℕ) × Place) ℕ) → m ≡ suc n → entry_at entries p ≡ Ok (entries', q) → entries_at m entries p ≡ all → entries_at n entries' q ≡ all
one_entry m n entries entries' p q all e r h =
    let next : entries_at (suc n) entries p ≡ all = subst (λ (k : ℕ). entries_at k entries p ≡ all) e h in
    subst (λ (s : Result (List (List ℕ) × Place) ℕ). (s >>= λ more. entries_at n more.0 more.1) ≡ all) r next

pub failed_entry : (m n : ℕ) (entries : List (List ℕ)) (p : Place) (all : Result (List (List ℕ) × Place) ℕ) → m ≡ suc n → entries_at m entries p ≡ all → (at : ℕ) → entry_at entries p ≡ Err at → all ≡ Err at
failed_entry m n entries p all e h at r =
    let next : entries_at (suc n) entries p ≡ all = subst (λ (k : ℕ). entries_at k entries p ≡ all) e h in
    sym (subst (λ (s : Result (List (List ℕ) × Place) ℕ). (s >>= λ more. entries_at n more.0 more.1) ≡ all) r next)
