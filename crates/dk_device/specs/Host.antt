-- A disk over two real files, of which only lengths and counts are told.
use Rattle.std.specs.Prelude.{◌≡◌, ℕ, List, None, Some}

pub record HostState : Type 0 where
  pub main : ℕ
  pub wal : ℕ
  pub moment : ℕ
  pub faults : ℕ

-- content that isn't told is no bytes
pub none_told : {P : Type 0} (bytes : List ℕ) → None ≡ Some bytes → P
none_told bytes is = cc
