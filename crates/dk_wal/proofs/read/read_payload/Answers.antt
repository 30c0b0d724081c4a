use Rattle.dk_wal.proofs.PayloadLemmas.{payload_found, payload_only}
use Rattle.dk_wal.proofs.read.read_payload.Goals as goal

pub returns-clause-found : goal.returns-clause-found
returns-clause-found c = payload_found (λ x. x) c.read_whole.result c.args.tables.now c.args.bytes.now
    c.read_whole.ensures (rw c.new.ensures.rest at c.left-left.ensures.bytes)

pub returns-clause-only : goal.returns-clause-only
returns-clause-only c = payload_only (λ x. x) c.read_whole.result c.args.tables.now c.args.bytes.now
    c.read_whole.ensures
