-- Rows and numbers of which none is left.
use Rattle.std.specs.Prelude.{ℕ, ◌+◌, List, length, sum, map, Bool, ◌&&◌, ◌||◌, ◌==◌, nat_lt}
use Rattle.dk_types.specs.declared.net.Commit.{Commit}
use Rattle.dk_types.specs.declared.net.Commit.TheVariants as commit
use Rattle.dk_types.specs.declared.reply.Exhausted.{Exhausted}
use Rattle.dk_si.specs.declared.database.Table.{Table}
use Rattle.dk_si.specs.declared.machine.Machine.{Machine}
use Rattle.dk_si.specs.declared.limits.TheConstants.{MAX_TRANSACTIONS}
use Rattle.dk_si.specs.declared.limits.TheConstants.{MAX_ROWS, SPARE_ROWS}
use Rattle.dk_si.specs.Nets.{new_rows}
use Rattle.dk_si.specs.Weight.{cap}

-- the rows of the opened tables, and the new ones of all commits
abbrev pub new_rows_of : Commit → ℕ
new_rows_of (commit.Create name schema) = 0
new_rows_of (commit.Change net) = new_rows net

abbrev pub committed_rows : List Table → List Commit → ℕ
committed_rows opened commits = sum (map (λ table. length table.rows) opened) + sum (map new_rows_of commits)

-- no further transaction can begin, and these are the numbers
abbrev pub is_spent : List Table → Exhausted → Machine → Bool
is_spent opened numbers machine =
    (machine.begun == MAX_TRANSACTIONS || nat_lt MAX_ROWS (committed_rows opened machine.commits + SPARE_ROWS))
    && ((numbers.clock == 0 && numbers.iteration == 0)
    && (numbers.transactions == machine.begun && numbers.rows == cap (committed_rows opened machine.commits)))
