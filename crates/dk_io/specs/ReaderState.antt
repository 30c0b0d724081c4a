-- What a line reader holds.
use Rattle.std.specs.Prelude.{ℕ, Bool, false, List, []}

-- the line that has begun, what is held of the source after it, the line read last, how many lines were read, how
-- many bytes the source gave, whether the last call found the end of the input, the limit of a line and that of the
-- whole text
pub record ReaderState : Type 0 where
  pub begun : List ℕ
  pub held : List ℕ
  pub line : List ℕ
  pub number : ℕ
  pub taken : ℕ
  pub ended : Bool
  pub limit : ℕ
  pub total : ℕ

-- nothing was read
abbrev pub fresh_reader : ℕ → ℕ → ReaderState
fresh_reader limit total = record {
  begun = [];
  held = [];
  line = [];
  number = 0;
  taken = 0;
  ended = false;
  limit = limit;
  total = total;
}
