-- Readers one after the other, up to the first fault.
use Rattle.std.specs.Prelude.{◌≡◌, ℕ, zero, suc, List, [], ◌∷◌, ◌++◌, length, Option, Some, None, Result, Ok, Err, ◌==◌, if◌then◌else◌}
use Rattle.dk_bytes.specs.Fields.{Place, Passes}
use Rattle.dk_bytes.specs.declared.field_error.FieldError.{FieldError}
use Rattle.dk_bytes.specs.declared.field_error.FieldError.TheVariants.{Malformed, OutOfMemory}

infixl 10 ◌>>=◌
abbrev pub ◌>>=◌ : {A B : Type 0} → Result A ℕ → (A → Result B ℕ) → Result B ℕ
(Ok x) >>= f = f x
(Err at) >>= f = Err at

-- the place that an error names; want of memory names none
abbrev pub place_of : FieldError → Option ℕ
place_of (Malformed at) = Some at
place_of OutOfMemory = None

-- the reading ends at the place that was named; where none was named, nothing is said of it
abbrev pub EndsAt : {Y : Type 0} → Option ℕ → Result Y ℕ → Type 0
EndsAt (Some at) reading = reading ≡ Err at
EndsAt None reading = Unit {0}

-- what a call returned, seen by view, is what the reading gives; place tells which place an error names
abbrev pub Answers : {E X Y : Type 0} → (E → Option ℕ) → (X → Y) → Result X E → Result Y ℕ → Type 0
Answers place view (Ok x) reading = reading ≡ Ok (view x)
Answers place view (Err e) reading = EndsAt (place e) reading

-- the reading ends at the place that the error names
abbrev pub FailsAt : {Y : Type 0} → FieldError → Result Y ℕ → Type 0
FailsAt e reading = EndsAt (place_of e) reading

-- the same of a call with the errors of fields
abbrev pub Gives : {X Y : Type 0} → (X → Y) → Result X FieldError → Result Y ℕ → Type 0
Gives view result reading = Answers place_of view result reading

-- this lawful thing is spelled between two places
pub record Spells {A : Type 0} (Is : A → Type 0) (spell : A → List ℕ) (x : A) (old new : Place) : Type 0 where
  pub lawful : Is x
  pub passes : Passes old new (spell x)

-- what a call read, seen by view, and the place that it went on to are those of the reading
abbrev pub Reads : {X A : Type 0} → (X → A) → Result X FieldError → Place → Result (A × Place) ℕ → Type 0
Reads view result new reading = Gives (λ x. (view x, new)) result reading

-- the place before a byte string
abbrev pub start : List ℕ → Place
start bytes = record { at = 0; rest = bytes }

-- the reading uses its bytes up, or the place of the first that is left over
abbrev pub whole : {A : Type 0} → Result (A × Place) ℕ → Result A ℕ
whole reading = do
  x ← reading
  if length x.1.rest == 0 then Ok x.0 else Err x.1.at

-- what was found, or a fault at the place
abbrev pub or_fault : {A : Type 0} → ℕ → Option A → Result A ℕ
or_fault at None = Err at
or_fault at (Some x) = Ok x

-- these things and so many more, each read with those before it in view
abbrev pub list_at : {A : Type 0} → (List A → Place → Result (A × Place) ℕ) → ℕ → List A → Place
    → Result (List A × Place) ℕ
list_at item zero earlier place = Ok (earlier, place)
list_at item (suc n) earlier place = do
  next ← item earlier place
  list_at item n (earlier ++ next.0 ∷ []) next.1

-- each thing fits behind those before it
abbrev pub AllFollow : {A : Type 0} → (List A → A → Type 0) → List A → List A → Type 0
AllFollow Fits earlier [] = Unit {0}
AllFollow Fits earlier (x ∷ xs) = Fits earlier x × AllFollow Fits (earlier ++ x ∷ []) xs

-- the byte string is the body of so many things, and these are lawful together
pub record IsBody {A : Type 0} (Is : List A → Type 0) (spell : List A → List ℕ) (count : ℕ) (bytes : List ℕ) (xs : List A) : Type 0 where
  pub total : length xs ≡ count
  pub lawful : Is xs
  pub spelled : bytes ≡ spell xs
