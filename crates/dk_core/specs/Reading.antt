-- What a session reads.
use Rattle.std.specs.Prelude.{ℕ, List, [], Option, Some, None, take, slice_get}
use Rattle.dk_values.specs.declared.value.Value.{Value}
use Rattle.dk_types.specs.declared.net.TableNet.{TableNet}
use Rattle.dk_si.specs.declared.database.Table.{Table}
use Rattle.dk_si.specs.declared.machine.OpenTransaction.{OpenTransaction}
use Rattle.dk_si.specs.declared.machine.Transaction.{Transaction}
use Rattle.dk_si.specs.declared.machine.Transaction.TheVariants as transaction
use Rattle.dk_si.specs.Database.{view, apply_net}
use Rattle.dk_si.specs.Machine.{committed_count, session_at}
use Rattle.dk_core.specs.declared.seat.Seat.{Seat}
use Rattle.dk_core.specs.Core.{Core, seat_at}

abbrev pub rows_of_table : List Table → ℕ → List (Option (List Value))
rows_of_table tables table = elim (slice_get tables table) [ None ↦ [] | Some found ↦ found.rows ]

-- the committed rows as an open transaction sees them, with the versions that its call in flight has made
abbrev pub rows_seen : Core → OpenTransaction → List TableNet → ℕ → List (Option (List Value))
rows_seen core active made table =
    take (committed_count core.opened core.now.commits active table)
    (rows_of_table (apply_net made (view core.opened core.now.commits active.start active.net)) table)

abbrev pub rows_in : Core → Transaction → Seat → ℕ → List (Option (List Value))
rows_in core (transaction.Open active) seat table = rows_seen core active seat.made table
rows_in core other seat table = []

-- what a session with an open transaction reads of a table's committed rows
abbrev pub reads : Core → ℕ → ℕ → List (Option (List Value))
reads core number table = elim (session_at core.now.sessions number) [
  | None ↦ []
  | Some session ↦ elim (seat_at core.seats number) [
    | None ↦ []
    | Some seat ↦ rows_in core session.transaction seat table
  ]
]
