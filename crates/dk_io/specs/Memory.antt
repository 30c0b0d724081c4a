-- What contracts see of a source and a sink in memory.
use Rattle.std.specs.Prelude.{◌≡◌, ℕ, Bool, true, List, Contains, if◌then◌else◌}
use Rattle.dk_fault.specs.Counts.{next_count}

-- which calls fail, the most bytes of a call, and the calls and the faults so far
pub record CallPlan : Type 0 where
  pub failing : List ℕ
  pub piece : ℕ
  pub calls : ℕ
  pub faults : ℕ

-- no call was made
abbrev pub fresh_plan : List ℕ → ℕ → CallPlan
fresh_plan failing piece = record { failing = failing; piece = piece; calls = 0; faults = 0 }

-- one more call was made, and failed or did not
abbrev pub after_call : CallPlan → Bool → CallPlan
after_call plan failed = record plan {
  calls = next_count plan.calls;
  faults = if failed then next_count plan.faults else plan.faults;
}

-- a source: the bytes left, and its calls
pub record Feed : Type 0 where
  pub left : List ℕ
  pub plan : CallPlan

-- a sink: the bytes taken, its calls, and how many of them failed for want of memory
pub record Taker : Type 0 where
  pub taken : List ℕ
  pub plan : CallPlan
  pub refused : ℕ

-- a listed call fails, and is no want of memory; any other call that fails is one
pub record FailsAsListed (old new : Taker) (failed : Bool) : Type 0 where
  pub listed : Contains old.plan.failing old.plan.calls → (failed ≡ true) × (new.refused ≡ old.refused)
  pub others : ¬ Contains old.plan.failing old.plan.calls →
      new.refused ≡ (if failed then next_count old.refused else old.refused)
