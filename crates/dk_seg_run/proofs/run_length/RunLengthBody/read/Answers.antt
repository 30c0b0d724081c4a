use Rattle.std.proofs.Common.{arith, rules}
use Rattle.dk_bytes.proofs.BodyLemmas.{body_reads}
use Rattle.dk_seg_run.proofs.RunBodyLemmas.{run_length_codec}
use Rattle.dk_seg_run.proofs.run_length.RunLengthBody.read.Goals as goal

pub returns-clause-values : goal.returns-clause-values
returns-clause-values c = body_reads _ _ _ (run_length_codec c.args.cells.now.kind) _ _ _ _ c.fill.ensures.values (λ i. omega (arith, c.type_inv.bytes i)) (search rules)
