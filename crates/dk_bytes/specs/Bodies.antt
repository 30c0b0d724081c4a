-- The bodies of segments, and what a reader of them answers.
use Rattle.std.specs.Prelude.{◌≡◌, ◌<◌, ◌^◌, ℕ, List, length, Result, Ok, IfOk}
use Rattle.dk_bytes.specs.declared.field_error.FieldError.{FieldError}
use Rattle.dk_bytes.specs.Fields.{IsBytes}
use Rattle.dk_bytes.specs.Reading.{Gives, IsBody}

-- the reading of a body: what is read stands there, and what is written is read
pub record IsCodec {A : Type 0} (read : ℕ → List ℕ → Result (List A) ℕ) (Is : List A → Type 0) (spell : List A → List ℕ) : Type 0 where
  pub takes : (count : ℕ) (bytes : List ℕ) (xs : List A) → IsBytes bytes → length bytes < 2 ^ 64
      → read count bytes ≡ Ok xs → IsBody Is spell count bytes xs
  pub again : (xs : List A) → Is xs → read (length xs) (spell xs) ≡ Ok xs

-- what was answered, seen by view, are so many lawful things whose body the bytes are; bytes that are such a body are
-- answered; other bytes are refused at the first fault
pub record ReadsBody {X A : Type 0} (Is : List A → Type 0) (spell : List A → List ℕ) (read : ℕ → List ℕ → Result (List A) ℕ) (count : ℕ) (bytes : List ℕ) (view : X → List A) (result : Result X FieldError) : Type 0 where
  pub found : IfOk result (λ x. IsBody Is spell count bytes (view x))
  pub only : (xs : List A) → IsBody Is spell count bytes xs → Gives view result (Ok xs)
  pub place : Gives view result (read count bytes)
