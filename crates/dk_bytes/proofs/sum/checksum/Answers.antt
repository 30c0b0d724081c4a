use Rattle.std.proofs.Common.{arith, rules}
use Rattle.dk_bytes.proofs.ChecksumLemmas.{checksum_told}
use Rattle.dk_bytes.proofs.sum.checksum.Goals as goal

pub returns-clause-tells : goal.returns-clause-tells
returns-clause-tells c = λ other d e. checksum_told c.args.bytes.now other c.folded.result (λ i. omega (arith, c.type_inv.bytes i)) (search rules) c.folded.ensures d e
