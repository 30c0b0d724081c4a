-- Bodies of many values: what is read is what stands there, and what stands there is read.
use Rattle.std.proofs.Common.{◌≡◌, ℕ, ◌^◌, ◌<◌, List, length, Result, Ok, sym, subst}
use Rattle.std.specs.Prelude.{IfOk}
use Rattle.dk_bytes.specs.declared.field_error.FieldError.{FieldError}
use Rattle.dk_bytes.specs.Fields.{IsBytes}
use Rattle.dk_bytes.specs.Reading.{Gives, IsBody}
use Rattle.dk_bytes.specs.Bodies.{IsCodec, ReadsBody}
use Rattle.dk_bytes.proofs.OutcomeLemmas.{gives_found, gives_only}

module _ {A : Type 0} (read : ℕ → List ℕ → Result (List A) ℕ) (Is : List A → Type 0) (spell : List A → List ℕ) (codec : IsCodec read Is spell) (count : ℕ) (bytes : List ℕ) where
  -- a body is read as the values that it stands for
  pub body_read : (xs : List A) → IsBody Is spell count bytes xs → read count bytes ≡ Ok xs
  body_read xs h =
      let P : ℕ → List ℕ → Type 0 = λ n l. read n l ≡ Ok xs in
      subst (λ (n : ℕ). P n bytes) h.total
      (subst (λ (l : List ℕ). P (length xs) l) (sym h.spelled) (codec.again xs h.lawful))

  module _ {X : Type 0} (view : X → List A) (result : Result X FieldError) (gives : Gives view result (read count bytes)) where
    -- what a call answered stands there
    pub body_found : IsBytes bytes → length bytes < 2 ^ 64 → IfOk result (λ x. IsBody Is spell count bytes (view x))
    body_found fits small =
        gives_found view (λ (xs : List A). IsBody Is spell count bytes xs) result (read count bytes) gives
        (λ xs e. codec.takes count bytes xs fits small e)

    -- what stands there was answered
    pub body_only : (xs : List A) → IsBody Is spell count bytes xs → Gives view result (Ok xs)
    body_only xs h = gives_only view result (read count bytes) xs gives (body_read xs h)

    -- what a call answered is what its grammar says
    pub body_reads : IsBytes bytes → length bytes < 2 ^ 64 → ReadsBody Is spell read count bytes view result
    body_reads fits small = record { found = body_found fits small; only = body_only; place = gives }
