-- What binding comes to: what is bound, or the first refusal.
use Rattle.std.specs.Prelude.{◌≡◌, Result, Ok, Err}
use Rattle.dk_types.specs.declared.reply.Refusal.{Refusal}
use Rattle.dk_bind.specs.declared.fault.BindError.{BindError}
use Rattle.dk_bind.specs.declared.fault.BindError.TheVariants.{Refused, OutOfMemory}

abbrev pub Outcome : Type 0 → Type 0
Outcome A = Result A Refusal

infixl 10 ◌>>=◌
abbrev pub ◌>>=◌ : {A B : Type 0} → Outcome A → (A → Outcome B) → Outcome B
(Ok x) >>= f = f x
(Err refusal) >>= f = Err refusal

-- binding is refused so, and for want of memory at any time
abbrev pub Refuses : {A : Type 0} → BindError → Outcome A → Type 0
Refuses (Refused refusal) found = found ≡ Err refusal
Refuses OutOfMemory found = Unit {0}

-- what a function returned is what binding comes to
abbrev pub Binds : {A : Type 0} → Result A BindError → Outcome A → Type 0
Binds (Ok x) found = found ≡ Ok x
Binds (Err e) found = Refuses e found
