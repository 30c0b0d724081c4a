-- What a session reads of a vector, and which tables it sees.
use Rattle.std.specs.Prelude.{ℕ, List, [], map, Some, None}
use Rattle.dk_types.specs.declared.vector.VectorId.{VectorId}
use Rattle.dk_si.specs.declared.machine.Transaction.{Transaction}
use Rattle.dk_si.specs.declared.machine.Transaction.TheVariants as transaction
use Rattle.dk_si.specs.Database.{view}
use Rattle.dk_si.specs.Machine.{session_at}
use Rattle.dk_core.specs.declared.seat.NewTable.{NewTable}
use Rattle.dk_core.specs.Core.{Core}
use Rattle.dk_core.specs.Layout.{groups_of}
use Rattle.dk_core.specs.Reading.{reads}
use Rattle.dk_slow_state.specs.declared.reading.Page.{Page}
use Rattle.dk_slow_state.specs.Pages.{page_of, heading}

-- the rows of a vector, of those that a session reads of its table
abbrev pub page_read : Core → ℕ → VectorId → Page
page_read core number at = page_of (groups_of core.layout at.table) at (reads core number at.table)

abbrev pub tables_in : Core → Transaction → List NewTable
tables_in core (transaction.Open active) =
    map heading (view core.opened core.now.commits active.start active.net)
tables_in core other = []

-- the names and schemas of the tables that a session with an open transaction sees
abbrev pub tables_read : Core → ℕ → List NewTable
tables_read core number = elim (session_at core.now.sessions number) [
  | None ↦ []
  | Some session ↦ tables_in core session.transaction
]
