-- The first rows of a vector whose rows have the same stamps.
use Rattle.std.proofs.Common.{ℕ, Bool, true, false, zero, suc, ◌≡◌, ◌<◌, ◌≤◌, ◌∷◌, map, length, take, replicate, refl, ap, sym, ◌∙◌, ◌⊎◌, inl, inr, arith}
use Rattle.std.specs.Prelude.{min, ◌&&◌, ◌≢◌}
use Rattle.std.specs.List.{list_all}
use Rattle.std.proofs.lemmas.Bool.{cases_lt}
use Rattle.std.proofs.lemmas.List.{take-replicate, take_all, length-replicate}
use Rattle.dk_version.specs.declared.stamps.Stamp.{Stamp}

pub front : (n count m : ℕ) (stamp : Stamp) → m ≡ min count n → take n (replicate count stamp) ≡ replicate m stamp
front n count m stamp is = so (cases_lt n count)
  where
    so : ((n < count) ⊎ (count ≤ n)) → take n (replicate count stamp) ≡ replicate m stamp
    so (inl less) =
        let same : m ≡ n = omega (arith, is, less) in
        let within : n ≤ count = omega (arith, less) in
        take-replicate n count stamp within ∙ ap (λ k. replicate k stamp) (sym same)
    so (inr more) =
        let same : m ≡ count = omega (arith, is, more) in
        let long : length (replicate count stamp) ≤ n = omega (arith, length-replicate count stamp, more) in
        take_all n (replicate count stamp) long ∙ ap (λ k. replicate k stamp) (sym same)

-- the same stamps of all rows, changed alike
pub map_same : (f : Stamp → Stamp) (n : ℕ) (stamp : Stamp) → map f (replicate n stamp) ≡ replicate n (f stamp)
map_same f zero stamp = refl
map_same f (suc n) stamp = ap (λ l. f stamp ∷ l) (map_same f n stamp)

-- a test that all rows meet or none
pub same_there : (p : Stamp → Bool) (n : ℕ) (stamp : Stamp) → n ≢ 0 → p stamp ≡ list_all p (replicate n stamp)
same_there p zero stamp some = absurd (some refl)
same_there p (suc zero) stamp some = so (p stamp)
  where
    so : (b : Bool) → b ≡ (b && true)
    so true = refl
    so false = refl
same_there p (suc (suc n)) stamp some = so (p stamp) ∙ ap (λ b. p stamp && b) (same_there p (suc n) stamp (λ none. omega (arith, none)))
  where
    so : (b : Bool) → b ≡ (b && b)
    so true = refl
    so false = refl
