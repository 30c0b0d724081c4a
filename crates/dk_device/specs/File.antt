-- A file in memory.
use Rattle.std.specs.Prelude.{ℕ, List, Option, None, Some, Vec}
use Rattle.std.specs.declared.alloc.Global.{Global}

-- a file as it was at first, and as it reads now
pub record FileState : Type 0 where
  pub start : List ℕ
  pub bytes : List ℕ

abbrev pub bytes_now : Vec ℕ Global → Option (Vec ℕ Global) → List ℕ
bytes_now start None = start.items
bytes_now start (Some changed) = changed.items
