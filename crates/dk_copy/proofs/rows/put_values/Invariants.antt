-- The values so far, with those of the fields that are left, are those of all.
use Rattle.std.proofs.Common.{◌≡◌, drop}
use Rattle.csv.specs.Records.{fields_of}
use Rattle.dk_copy.specs.Copied.{behind, values_from}
use Rattle.dk_copy.proofs.rows.put_values.Given as goal

abbrev pub invariant-columns : goal.invariant-columns
invariant-columns l =
    behind l.values (values_from l.place (drop l.place l.columns) (drop l.place (fields_of l.fields)))
    ≡ behind l.fn.values (values_from 0 l.columns (fields_of l.fields))
