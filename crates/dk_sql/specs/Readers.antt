-- What stands at the front of a text, and the rest of the text, or where its first fault is.
use Rattle.std.specs.Prelude.{◌≡◌, ℕ, List, ◌++◌, Result, Ok, Err}
use Rattle.dk_sql.specs.declared.fault.Stop.{Stop}
use Rattle.dk_sql.specs.declared.fault.Stop.TheVariants.{Fault, OutOfMemory}

-- a value, or how many bytes of the text are left from its first fault on
abbrev pub Outcome : Type 0 → Type 0
Outcome A = Result A ℕ

-- a reader finds a value at the front of a text, and the rest
abbrev pub Reader : Type 0 → Type 0
Reader A = List ℕ → Outcome (A × List ℕ)

infixl 10 ◌>>=◌
abbrev pub ◌>>=◌ : {A B : Type 0} → Outcome A → (A → Outcome B) → Outcome B
(Ok x) >>= f = f x
(Err left) >>= f = Err left

-- a reader stops at the first fault, and for want of memory at any time
abbrev pub Stops : {Y : Type 0} → Stop → Outcome Y → Type 0
Stops (Fault left) found = found ≡ Err left
Stops OutOfMemory found = Unit {0}

-- what a function returned, seen by view, is what is found
abbrev pub Gives : {X Y : Type 0} → (X → Y) → Result X Stop → Outcome Y → Type 0
Gives view (Ok x) found = found ≡ Ok (view x)
Gives view (Err stop) found = Stops stop found

-- the items found, behind others
abbrev pub with_front : {A : Type 0} → List A → Outcome (List A × List ℕ) → Outcome (List A × List ℕ)
with_front front (Ok found) = Ok (front ++ found.0, found.1)
with_front front (Err left) = Err left
