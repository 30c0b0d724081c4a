use Rattle.std.proofs.Common.{arith}
use Rattle.dk_bytes.proofs.NarrowLemmas.{from_bit}
use Rattle.dk_bytes.proofs.narrow.split_before.Goals as goal

pub returns-clause-number : goal.returns-clause-number
returns-clause-number c = from_bit c.args.bytes.now _ (λ i. omega (arith, c.type_inv.bytes i))
