-- How a list is read, one thing behind the other.
use Rattle.std.proofs.Common.{◌≡◌, ◌+◌, ◌-◌, ◌<◌, ℕ, List, [], ◌∷◌, ◌++◌, Result, Ok, subst, sym, arith}
use Rattle.dk_bytes.specs.declared.field_error.FieldError.{FieldError}
use Rattle.dk_bytes.specs.Fields.{Place}
use Rattle.dk_bytes.specs.Reading.{FailsAt, list_at}
use Rattle.dk_bytes.proofs.OutcomeLemmas.{fails_then}
use Rattle.dk_bytes.proofs.SpellLemmas.{list_step, list_fault}

module _ {A : Type 0} (item : List A → Place → Result (A × Place) ℕ) (count done : ℕ) (items : List A) (now start : Place) where
  -- one thing more was read
  pub list_on : (x : A) (all : List A) (next : Place) → done < count → list_at item (count - done) items now ≡ list_at item count [] start
      → item items now ≡ Ok (x, next) → all ≡ items ++ x ∷ [] → list_at item (count - (done + 1)) all next ≡ list_at item count [] start
  list_on x all next more told read pushed =
      subst (λ (xs : List A). list_at item (count - (done + 1)) xs next ≡ list_at item count [] start) (sym pushed)
      (list_step item items x (count - done) (count - (done + 1)) now next _ (omega (arith, more)) read told)

  -- the next thing was not read
  pub list_ends : (e : FieldError) → done < count → list_at item (count - done) items now ≡ list_at item count [] start
      → FailsAt e (item items now) → FailsAt e (list_at item count [] start)
  list_ends e more told fault =
      fails_then e _ _ (list_fault item items (count - done) (count - (done + 1)) now _ (omega (arith, more)) told) fault
