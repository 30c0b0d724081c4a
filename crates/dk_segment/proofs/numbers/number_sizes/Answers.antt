use Rattle.std.proofs.Common.{arith}
use Rattle.dk_segment.proofs.NumberSizeLemmas.{few_runs, number_sizes_are}
use Rattle.dk_segment.proofs.numbers.number_sizes.Goals as goal

pub sizes_for-requires-clause-runs : goal.sizes_for-requires-clause-runs
sizes_for-requires-clause-runs c = omega (arith, c.requires.profile.runs, few_runs c.args.numbers.now, c.requires.few.few)

pub returns : goal.returns
returns c = rw c.sizes_for.ensures (number_sizes_are c.args.kind c.args.numbers.now c.args.profile c.requires.few c.requires.profile)
