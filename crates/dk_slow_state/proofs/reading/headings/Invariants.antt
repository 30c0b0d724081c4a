-- What is made so far is of the front of the tables.
use Rattle.std.proofs.Common.{◌≡◌, take, map}
use Rattle.dk_slow_state.specs.Pages.{heading}
use Rattle.dk_slow_state.proofs.reading.headings.Given as goal

abbrev pub invariant-loop-table : goal.invariant-loop-table
invariant-loop-table l = l.headings.items ≡ map heading (take l.table-index l.tables)
