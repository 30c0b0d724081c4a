use Rattle.dk_wal.proofs.WritableLemmas.{writable}
use Rattle.dk_wal.proofs.records.record_of.Goals as goal

pub record_with-requires-clause-writable : goal.record_with-requires-clause-writable
record_with-requires-clause-writable c = writable c.requires.lawful.0 c.args.commit.now c.requires.lawful.1
