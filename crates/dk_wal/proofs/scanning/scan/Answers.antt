use Rattle.std.proofs.Common.{arith}
use Rattle.dk_wal.proofs.GrammarLemmas.{call_found, call_only}
use Rattle.dk_wal.proofs.scanning.scan.Goals as goal

pub returns-clause-found : goal.returns-clause-found
returns-clause-found c = call_found c.args.tables.now c.args.iteration c.args.log.now
    (λ i. omega (arith, c.type_inv.log i)) c.scan_log.result c.scan_log.ensures

pub returns-clause-only : goal.returns-clause-only
returns-clause-only c = call_only c.args.tables.now c.args.iteration c.args.log.now
    (λ i. omega (arith, c.type_inv.log i)) c.scan_log.result c.scan_log.ensures
