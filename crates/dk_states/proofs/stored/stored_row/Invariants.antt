-- The values so far, with those that are left as the columns hold them, are those of all.
use Rattle.std.proofs.Common.{◌≡◌, drop, ◌++◌}
use Rattle.std.specs.Prelude.{option_map}
use Rattle.dk_si.specs.Stored.{stored_row}
use Rattle.dk_states.proofs.stored.stored_row.Given as goal

abbrev pub invariant-columns : goal.invariant-columns
invariant-columns l =
    option_map (λ values. l.found ++ values) (stored_row (drop l.place l.columns) (drop l.place l.row))
    ≡ stored_row l.columns l.row
