-- What a reader answered, and what reading gives.
use Rattle.std.proofs.Common.{◌≡◌, ℕ, cond, eqb, [], length, Result, Ok, Err, refl, sym, subst}
use Rattle.std.specs.Prelude.{IfOk}
use Rattle.std.proofs.lemmas.Bool.Decides.{Decides-eqb}
use Rattle.dk_bytes.specs.declared.field_error.FieldError.{FieldError}
use Rattle.dk_bytes.specs.declared.field_error.FieldError.TheVariants.{Malformed, OutOfMemory}
use Rattle.dk_bytes.specs.Fields.{Place}
use Rattle.dk_bytes.specs.Reading.{FailsAt, Gives, whole}
use Rattle.dk_bytes.proofs.NumberLemmas.{bind_ok, chosen_ok}
use Rattle.std.proofs.lemmas.List.{nil_from_length}

-- what holds of each value that is read holds of the one that was answered
pub gives_found : {X Y : Type 0} (view : X → Y) (P : Y → Type 0) (r : Result X FieldError) (reading : Result Y ℕ) → Gives view r reading → ((y : Y) → reading ≡ Ok y → P y) → IfOk r (λ x. P (view x))
gives_found view P (Ok x) reading g k = k (view x) g
gives_found view P (Err e) reading g k = tt

-- what reading gives was answered
pub gives_only : {X Y : Type 0} (view : X → Y) (r : Result X FieldError) (reading : Result Y ℕ) (y : Y) → Gives view r reading → reading ≡ Ok y → Gives view r (Ok y)
gives_only view r reading y g e = subst (λ (s : Result _ ℕ). Gives view r s) e g

-- a reading that failed, in a longer one that ends there
pub fails_then : {Y Z : Type 0} (e : FieldError) (reading : Result Y ℕ) (longer : Result Z ℕ) → ((at : ℕ) → reading ≡ Err at → longer ≡ Err at) → FailsAt e reading → FailsAt e longer
fails_then (Malformed at) reading longer k h = k at h
fails_then OutOfMemory reading longer k h = tt

-- a reading that used its bytes up
pub record UsesUp {A : Type 0} (reading : Result (A × Place) ℕ) (y : A) : Type 0 where
  pub behind : Place
  pub told : reading ≡ Ok (y, behind)
  pub used : behind.rest ≡ []

pub whole_ok : {A : Type 0} (reading : Result (A × Place) ℕ) (y : A) → whole reading ≡ Ok y → UsesUp reading y
whole_ok {A} reading y e =
    let b = bind_ok reading (λ x. cond (eqb (length x.1.rest) 0) (Ok x.0) (Err x.1.at)) y e in
    let x = b.0 in
    let g = chosen_ok (eqb (length x.1.rest) 0) x.1.at x.0 y b.2 in
    let P : A → Type 0 = λ z. UsesUp reading z in
    subst P g.1 (record { behind = x.1; told = b.1; used = nil_from_length x.1.rest ((Decides-eqb (length x.1.rest) 0).0 g.0) })

pub whole_at : {A : Type 0} (reading : Result (A × Place) ℕ) (y : A) (at : ℕ) → reading ≡ Ok (y, record { at = at; rest = [] }) → whole reading ≡ Ok y
whole_at {A} reading y at e =
    let P : Result (A × Place) ℕ → Type 0 = λ r. whole r ≡ Ok y in
    subst P (sym e) refl
