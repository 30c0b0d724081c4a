use Rattle.dk_bytes.proofs.FieldLemmas.{passes_same, reads_number}
use Rattle.dk_bytes.proofs.cursor.Cursor.u64.Goals as goal

pub returns-clause-found : goal.returns-clause-found
returns-clause-found c = passes_same _ _ _ _ c.in_ok-bytes.ensures.found c.in_ok-bytes.ensures.length c.word_of.ensures.bytes

pub returns-clause-value : goal.returns-clause-value
returns-clause-value c = reads_number _ _ _ _ c.in_ok-bytes.ensures.found c.in_ok-bytes.ensures.length c.word_of.ensures.value
