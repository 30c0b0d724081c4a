use Rattle.dk_segment.proofs.ChoiceLemmas.{column_plain}
use Rattle.dk_segment.proofs.choice.analyse.Goals as goal

pub best_for-requires-clause-plain : goal.best_for-requires-clause-plain
best_for-requires-clause-plain c = column_plain c.args.kind c.args.values.now c.requires
