use Rattle.std.proofs.Common.{ap, sym, ◌∙◌, arith}
use Rattle.std.specs.Int.Count.{ones}
use Rattle.dk_scans.proofs.CountLemmas.{set_ones, set_most}
use Rattle.dk_scans.proofs.counts.set_bits.Goals as goal

pub returns-clause-set : goal.returns-clause-set
returns-clause-set c = ap ones c.first_bits.ensures ∙ sym (set_ones c.args.n c.args.word)

pub returns-clause-most : goal.returns-clause-most
returns-clause-most c = omega (arith, ap ones c.first_bits.ensures, set_ones c.args.n c.args.word, set_most c.args.n c.args.word)
