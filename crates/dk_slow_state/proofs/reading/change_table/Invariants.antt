-- The other versions lead to the same rows.
use Rattle.std.proofs.Common.{◌≡◌, drop}
use Rattle.dk_slow_state.specs.Pages.{rows_behind}
use Rattle.dk_slow_state.proofs.reading.change_table.Given as goal

abbrev pub invariant-loop-part : goal.invariant-loop-part
invariant-loop-part l = rows_behind (drop l.part-index l.parts) l.table l.rows.items
    ≡ rows_behind l.parts l.table l.fn.rows.items
