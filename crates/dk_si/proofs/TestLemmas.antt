-- Tests over lists: what holds of all items, of some, and of those that a filter keeps.
use Rattle.std.proofs.Common.{◌≡◌, Bool, true, false, List, [], ◌∷◌, ap, ◌∙◌, refl}
use Rattle.std.specs.Prelude.{◌&&◌, ◌||◌, not, if◌then◌else◌}
use Rattle.std.specs.List.{list_all, list_any, filter, flat_map}
use Rattle.std.proofs.lemmas.List.Folds.{list_all-append, list_any-append}

-- lists
pub all_same : {T : Type 0} → (P Q : T → Bool) → (xs : List T) → ((x : T) → P x ≡ Q x) → list_all P xs ≡ list_all Q xs
all_same P Q [] same = refl
all_same P Q (x ∷ xs) same = ap (λ b. b && list_all P xs) (same x) ∙ ap (λ b. Q x && b) (all_same P Q xs same)

pub any_same : {T : Type 0} → (P Q : T → Bool) → (xs : List T) → ((x : T) → P x ≡ Q x) → list_any P xs ≡ list_any Q xs
any_same P Q [] same = refl
any_same P Q (x ∷ xs) same = ap (λ b. b || list_any P xs) (same x) ∙ ap (λ b. Q x || b) (any_same P Q xs same)

pub or_swap : (a b c d : Bool) → ((a || b) || (c || d)) ≡ ((a || c) || (b || d))
or_swap true b c d = refl
or_swap false true true d = refl
or_swap false true false d = refl
or_swap false false c d = refl

pub any_or : {T : Type 0} → (P Q : T → Bool) → (xs : List T) → list_any (λ x. P x || Q x) xs ≡ (list_any P xs || list_any Q xs)
any_or P Q [] = refl
any_or P Q (x ∷ xs) = ap (λ b. (P x || Q x) || b) (any_or P Q xs) ∙ or_swap (P x) (Q x) (list_any P xs) (list_any Q xs)

pub and_swap : (a b c d : Bool) → ((a && b) && (c && d)) ≡ ((a && c) && (b && d))
and_swap false b c d = refl
and_swap true false false d = refl
and_swap true false true d = refl
and_swap true true c d = refl

pub all_and : {T : Type 0} → (P Q : T → Bool) → (xs : List T) → list_all (λ x. P x && Q x) xs ≡ (list_all P xs && list_all Q xs)
all_and P Q [] = refl
all_and P Q (x ∷ xs) = ap (λ b. (P x && Q x) && b) (all_and P Q xs) ∙ and_swap (P x) (Q x) (list_all P xs) (list_all Q xs)

pub not_and : (a b : Bool) → (a && not b) ≡ not (not a || b)
not_and true b = refl
not_and false b = refl

pub twice : (a : Bool) → a ≡ not (not a)
twice true = refl
twice false = refl

pub all_not : {T : Type 0} → (P : T → Bool) → (xs : List T) → list_all P xs ≡ not (list_any (λ x. not (P x)) xs)
all_not P [] = refl
all_not P (x ∷ xs) = ap (λ b. P x && b) (all_not P xs) ∙ not_and (P x) (list_any (λ y. not (P y)) xs)

pub no_any : {T : Type 0} → (xs : List T) → list_any (λ x. false) xs ≡ false
no_any [] = refl
no_any (x ∷ xs) = no_any xs

pub every : {T : Type 0} → (xs : List T) → list_all (λ x. true) xs ≡ true
every [] = refl
every (x ∷ xs) = every xs

pub any_kept : {T : Type 0} → (P : T → Bool) (x : T) (xs : List T) (keep : Bool) → list_any P (if keep then x ∷ xs else xs) ≡ ((keep && P x) || list_any P xs)
any_kept P x xs true = refl
any_kept P x xs false = refl

pub any_filter : {T : Type 0} → (P keep : T → Bool) → (xs : List T) → list_any P (filter keep xs) ≡ list_any (λ x. keep x && P x) xs
any_filter P keep [] = refl
any_filter P keep (x ∷ xs) = any_kept P x (filter keep xs) (keep x) ∙ ap (λ b. (keep x && P x) || b) (any_filter P keep xs)

pub all_kept : {T : Type 0} → (P : T → Bool) (x : T) (xs : List T) (keep : Bool) → list_all P (if keep then x ∷ xs else xs) ≡ ((not keep || P x) && list_all P xs)
all_kept P x xs true = refl
all_kept P x xs false = refl

pub all_filter : {T : Type 0} → (P keep : T → Bool) → (xs : List T) → list_all P (filter keep xs) ≡ list_all (λ x. not (keep x) || P x) xs
all_filter P keep [] = refl
all_filter P keep (x ∷ xs) = all_kept P x (filter keep xs) (keep x) ∙ ap (λ b. (not (keep x) || P x) && b) (all_filter P keep xs)

pub any_flat : {T U : Type 0} → (P : U → Bool) → (f : T → List U) → (xs : List T) → list_any P (flat_map f xs) ≡ list_any (λ x. list_any P (f x)) xs
any_flat P f [] = refl
any_flat P f (x ∷ xs) = list_any-append P (f x) (flat_map f xs) ∙ ap (λ b. list_any P (f x) || b) (any_flat P f xs)

pub all_flat : {T U : Type 0} → (P : U → Bool) → (f : T → List U) → (xs : List T) → list_all P (flat_map f xs) ≡ list_all (λ x. list_all P (f x)) xs
all_flat P f [] = refl
all_flat P f (x ∷ xs) = list_all-append P (f x) (flat_map f xs) ∙ ap (λ b. list_all P (f x) && b) (all_flat P f xs)

pub any_and : {T : Type 0} → (b : Bool) (P : T → Bool) → (xs : List T) → list_any (λ x. P x && b) xs ≡ (list_any P xs && b)
any_and b P [] = refl
any_and b P (x ∷ xs) = ap (λ c. (P x && b) || c) (any_and b P xs) ∙ and_both (P x) (list_any P xs) b
  where
    and_both : (p q b : Bool) → ((p && b) || (q && b)) ≡ ((p || q) && b)
    and_both true q true = refl
    and_both true true false = refl
    and_both true false false = refl
    and_both false q b = refl
