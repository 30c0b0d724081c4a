-- Runs of equal numbers.
use Rattle.std.specs.Prelude.{ℕ, ℤ, ◌+◌, List, [], ◌∷◌, if◌then◌else◌}
use Rattle.std.specs.Ordering.{int_eq}

-- how many runs a number and the numbers after it have
abbrev pub run_count : ℤ → List ℤ → ℕ
run_count last [] = 1
run_count last (number ∷ numbers) = (if int_eq last number then 0 else 1) + run_count number numbers

-- of all numbers
abbrev pub runs_in : List ℤ → ℕ
runs_in [] = 0
runs_in (number ∷ numbers) = run_count number numbers

-- how often a number stands before another one
abbrev pub run_len : ℤ → List ℤ → ℕ
run_len first [] = 1
run_len first (number ∷ numbers) = if int_eq first number then run_len first numbers + 1 else 1

-- the numbers from that other one on
abbrev pub behind_run : ℤ → List ℤ → List ℤ
behind_run first [] = []
behind_run first (number ∷ numbers) = if int_eq first number then behind_run first numbers else number ∷ numbers
