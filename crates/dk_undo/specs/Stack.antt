-- What a contract sees of an undo stack.
use Rattle.std.specs.Prelude.{ℕ, ◌+◌, ◌-◌, ◌*◌, List, refl}
use Rattle.std.specs.Int.{div_ceil}
use Rattle.std.specs.Coded.{Coded, code_by, coded×, coded_list, coded_ℕ}
use Rattle.dk_undo.specs.declared.chunk.TheConstants.{CHUNK_LEN}

-- the entries, oldest first, and how many more there is room for without taking memory
pub record Stack (X : Type 0) : Type 0 where
  pub entries : List X
  pub spare : ℕ

module _ {X : Type 0} where
  abbrev pub stack : List X → ℕ → Stack X
  stack xs n = record { entries = xs; spare = n }

  abbrev pub stack_code : Coded X → Coded (Stack X)
  stack_code c = code_by (List X
      × ℕ) (coded× (coded_list c) coded_ℕ) (λ s. (s.entries, s.spare)) (λ p. stack p.0 p.1) (λ _. refl)

-- the room after `n` entries have been made room for: the least number of chunks of 64 is added
abbrev pub reserved : ℕ → ℕ → ℕ
reserved spare n = spare + CHUNK_LEN * div_ceil (n - spare) CHUNK_LEN
