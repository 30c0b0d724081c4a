-- Tests and filters over lists, for what is among their items.
use Rattle.std.proofs.Common.{◌≡◌, ◌+◌, ◌-◌, Bool, true, false, List, [], ◌∷◌, ◌++◌, map, ap, ◌∙◌, sym, refl}
use Rattle.std.specs.Prelude.{◌&&◌, not, if◌then◌else◌}
use Rattle.std.specs.List.{filter, flat_map, list_all, list_any}
use Rattle.std.proofs.lemmas.Bool.{and_parts, or_parts}
use Rattle.dk_si.proofs.TestLemmas.{all_not, twice}

-- a test that no item of the list passes, this one does not pass: it is one of them
abbrev pub IsAmong : {T : Type 0} → List T → T → Type 0
IsAmong {T} xs x = (test : T → Bool) → list_any test xs ≡ false → test x ≡ false

pub all_same_among : {T : Type 0} → (P Q : T → Bool) (xs : List T) → ((x : T) → IsAmong xs x → P x ≡ Q x)
    → list_all P xs ≡ list_all Q xs
all_same_among P Q [] same = refl
all_same_among P Q (x ∷ xs) same =
    ap (λ b. b && list_all P xs) (same x (λ test none. (or_parts _ _ none).0))
    ∙ ap (λ b. Q x && b) (all_same_among P Q xs (λ y among. same y (λ test none. among test (or_parts _ _ none).1)))

pub flat_same_among : {T U : Type 0} → (f g : T → List U) (xs : List T) → ((x : T) → IsAmong xs x → f x ≡ g x)
    → flat_map f xs ≡ flat_map g xs
flat_same_among f g [] same = refl
flat_same_among f g (x ∷ xs) same =
    ap (λ list. list ++ flat_map f xs) (same x (λ test none. (or_parts _ _ none).0))
    ∙ ap (λ list. g x ++ list) (flat_same_among f g xs
    (λ y among. same y (λ test none. among test (or_parts _ _ none).1)))

pub all_among : {T : Type 0} → (P : T → Bool) (xs : List T) (x : T) → list_all P xs ≡ true → IsAmong xs x → P x ≡ true
all_among P xs x all among =
    twice (P x) ∙ ap not (among (λ y. not (P y)) (twice _ ∙ ap not (sym (all_not P xs) ∙ all)))

-- filters
filter_if : {T : Type 0} → (keep : T → Bool) (x : T) (xs : List T) (b : Bool)
    → filter keep (if b then x ∷ xs else xs) ≡ (if b && keep x then x ∷ filter keep xs else filter keep xs)
filter_if keep x xs true = refl
filter_if keep x xs false = refl

pub filter_same : {T : Type 0} → (P Q : T → Bool) (xs : List T) → ((x : T) → P x ≡ Q x) → filter P xs ≡ filter Q xs
filter_same P Q [] same = refl
filter_same P Q (x ∷ xs) same =
    ap (λ (b : Bool). if b then x ∷ filter P xs else filter P xs) (same x)
    ∙ ap (λ list. if Q x then x ∷ list else list) (filter_same P Q xs same)

pub filter_twice : {T : Type 0} → (P Q : T → Bool) (xs : List T) → filter P (filter Q xs) ≡ filter (λ x. Q x && P x) xs
filter_twice P Q [] = refl
filter_twice P Q (x ∷ xs) =
    filter_if P x (filter Q xs) (Q x) ∙ ap (λ list. if Q x && P x then x ∷ list else list) (filter_twice P Q xs)

pub filter_given : {T : Type 0} → (G P Q : T → Bool) (xs : List T) → ((x : T) → G x ≡ true → P x ≡ Q x)
    → list_all G xs ≡ true → filter P xs ≡ filter Q xs
filter_given G P Q [] same good = refl
filter_given G P Q (x ∷ xs) same good =
    let h = and_parts (G x) (list_all G xs) good in
    ap (λ (b : Bool). if b then x ∷ filter P xs else filter P xs) (same x h.0)
    ∙ ap (λ list. if Q x then x ∷ list else list) (filter_given G P Q xs same h.1)

pub all_given : {T : Type 0} → (G P Q : T → Bool) (xs : List T) → ((x : T) → G x ≡ true → P x ≡ Q x)
    → list_all G xs ≡ true → list_all P xs ≡ list_all Q xs
all_given G P Q [] same good = refl
all_given G P Q (x ∷ xs) same good =
    let h = and_parts (G x) (list_all G xs) good in
    ap (λ b. b && list_all P xs) (same x h.0) ∙ ap (λ b. Q x && b) (all_given G P Q xs same h.1)

filter_map_if : {T U : Type 0} → (keep : U → Bool) (f : T → U) (x : T) (rest : List T) (b : Bool)
    → filter keep (map f (if b then x ∷ rest else rest))
    ≡ (if b && keep (f x) then f x ∷ filter keep (map f rest) else filter keep (map f rest))
filter_map_if keep f x rest true = refl
filter_map_if keep f x rest false = refl

map_if : {T U : Type 0} → (f : T → U) (x : T) (xs : List T) (b : Bool)
    → map f (if b then x ∷ xs else xs) ≡ (if b then f x ∷ map f xs else map f xs)
map_if f x xs true = refl
map_if f x xs false = refl

pub filter_map_filter : {T U : Type 0} → (keep : U → Bool) (f : T → U) (also : T → Bool) (xs : List T)
    → filter keep (map f (filter also xs)) ≡ map f (filter (λ x. also x && keep (f x)) xs)
filter_map_filter keep f also [] = refl
filter_map_filter keep f also (x ∷ xs) =
    filter_map_if keep f x (filter also xs) (also x)
    ∙ (ap (λ list. if also x && keep (f x) then f x ∷ list else list) (filter_map_filter keep f also xs)
    ∙ sym (map_if f x (filter (λ y. also y && keep (f y)) xs) (also x && keep (f x))))
