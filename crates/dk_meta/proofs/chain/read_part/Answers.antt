use Rattle.std.proofs.Common.{Some, arith}
use Rattle.dk_meta.proofs.ChainLemmas.{part_found, part_only}
use Rattle.dk_meta.proofs.chain.read_part.Goals as goal

pub returns-clause-found : goal.returns-clause-found
returns-clause-found c = part_found (λ fault. Some fault.joined)
    (λ part. record { next = part.next; bytes = part.bytes.now }) c.next_part.result c.args.payload.now c.next_part.ensures
    (λ i. omega (arith, c.type_inv.payload i)) c.requires

pub returns-clause-only : goal.returns-clause-only
returns-clause-only c = part_only (λ fault. Some fault.joined)
    (λ part. record { next = part.next; bytes = part.bytes.now }) c.next_part.result c.args.payload.now c.next_part.ensures
