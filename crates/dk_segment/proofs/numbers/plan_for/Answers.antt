use Rattle.dk_seg_body.specs.Numbers.{values_for}
use Rattle.dk_segment.proofs.ChoiceLemmas.{best_is}
use Rattle.dk_segment.proofs.numbers.plan_for.Goals as goal

pub returns-clause-best : goal.returns-clause-best
returns-clause-best c = rw c.best-encoding.ensures (best_is c.args.kind (values_for c.args.kind c.args.numbers.now) c.number_sizes.result c.number_sizes.ensures)
