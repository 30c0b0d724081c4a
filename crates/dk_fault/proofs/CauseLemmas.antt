-- Counts of faults over one call after another.
use Rattle.std.proofs.Common.{ℕ, ◌≤◌, Result, Ok, Err, arith}
use Rattle.dk_fault.specs.Causes.{Rose, HasCause, HasCauseIf}

-- a count that rose since a later time rose since an earlier one
pub rose_since : (earlier before now : ℕ) → earlier ≤ before → Rose before now → Rose earlier now
rose_since earlier before now later rose = omega (arith, rose)

-- and stays risen
pub rose_until : (before now later : ℕ) → Rose before now → now ≤ later → Rose before later
rose_until before now later rose after = omega (arith, rose)

-- a call that has its cause has it in the calls since an earlier time
pub cause_since : {T E : Type 0} (earlier before now : ℕ) (result : Result T E) → earlier ≤ before → HasCause before now result → HasCause earlier now result
cause_since earlier before now (Ok value) later cause = record { later = omega (arith, cause.later); failed = tt }
cause_since earlier before now (Err fault) later cause = record { later = omega (arith, cause.later); failed = rose_since earlier before now later cause.failed }

-- the same where only one of the answers is a fault
pub cause_if_since : (earlier before now : ℕ) (IsFault : Type 0) → earlier ≤ before → HasCauseIf before now IsFault → HasCauseIf earlier now IsFault
cause_if_since earlier before now IsFault later cause = record { later = omega (arith, cause.later); failed = λ fault. rose_since earlier before now later (cause.failed fault) }
