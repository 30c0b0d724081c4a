use Rattle.dk_bytes.specs.PlainValue.{present}
use Rattle.dk_segment.proofs.ChoiceLemmas.{best_is}
use Rattle.dk_segment.proofs.choice.best_for.Goals as goal

pub returns : goal.returns
returns c = rw c.best.ensures (best_is c.args.kind (present c.args.values.now) c.sizes_of.result c.sizes_of.ensures)
