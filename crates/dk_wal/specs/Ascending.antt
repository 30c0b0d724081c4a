-- Lists whose keys ascend.
use Rattle.std.specs.Prelude.{◌≡◌, ℕ, true, List, []}
use Rattle.dk_values.specs.declared.value.Value.{Value}
use Rattle.dk_bytes.specs.Reading.{AllFollow}
use Rattle.dk_wal.specs.Counted.{is_behind}

-- the key of an update is its row's id
abbrev pub first : ℕ × List Value → ℕ
first update = update.0

-- the key of an id
abbrev pub itself : ℕ → ℕ
itself id = id

-- each thing has a higher key than the one before it
abbrev pub Ascends : {A : Type 0} → (A → ℕ) → List A → Type 0
Ascends key things = AllFollow (λ earlier thing. is_behind key earlier (key thing) ≡ true) [] things
