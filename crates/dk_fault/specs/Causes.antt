-- What a fault has to show in the count of faults of the object that was called.
use Rattle.std.specs.Prelude.{ℕ, ◌≤◌, OnErr, Result}
use Rattle.dk_fault.specs.Counts.{next_count}

-- the count rose, or stands at its last value
abbrev pub Rose : ℕ → ℕ → Type 0
Rose before now = next_count before ≤ now

-- the count did not fall, and each error shows in it
pub record HasCause {T E : Type 0} (before now : ℕ) (result : Result T E) : Type 0 where
  pub later : before ≤ now
  pub failed : OnErr result (Rose before now)

-- the count did not fall, and shows it where this is so: where one of several errors is answered, or a status
pub record HasCauseIf (before now : ℕ) (IsFault : Type 0) : Type 0 where
  pub later : before ≤ now
  pub failed : IsFault → Rose before now
