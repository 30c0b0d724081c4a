use Rattle.dk_bytes.proofs.ColumnLemmas.{schema_named}
use Rattle.dk_bytes.proofs.columns.columns_len.Goals as goal

pub each_len-requires-clause-names : goal.each_len-requires-clause-names
each_len-requires-clause-names c = rw c.as_slice.ensures.columns
    (schema_named c.args.schema.now c.as_slice.ensures.lawful)
