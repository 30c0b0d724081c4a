-- Rows that are held, as the program counts them.
use Rattle.std.specs.Prelude.{ℕ, zero, suc, ◌+◌, Bool, Option, Some, None, min, if◌then◌else◌}
use Rattle.dk_plain_engine.specs.declared.scene.RowId.{RowId}

-- the lesser of two, where there is one already
abbrev pub least_with : Option ℕ → ℕ → ℕ
least_with None id = id
least_with (Some other) id = min other id

-- a row as the machine's definitions name it
abbrev pub row_pair : Option RowId → Option (ℕ × ℕ)
row_pair None = None
row_pair (Some at) = Some (at.table, at.row)

-- the last of the commits up to a place that changed the row, and of those behind it
abbrev pub or_last : ℕ → ℕ → ℕ → ℕ
or_last last place zero = last
or_last last place (suc n) = suc n + place

-- a commit at that place changed the row, or the last one did that is known
abbrev pub last_or : ℕ → ℕ → Bool → ℕ
last_or last place has = if has then place + 1 else last

-- the least of two, where there are two
abbrev pub joined : Option ℕ → Option ℕ → Option ℕ
joined None more = more
joined (Some id) None = Some id
joined (Some id) (Some other) = Some (min id other)

abbrev pub least_or : Option ℕ → ℕ → Bool → Option ℕ
least_or least id held = if held then Some (least_with least id) else least
