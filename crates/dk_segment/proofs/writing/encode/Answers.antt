use Rattle.dk_segment.proofs.ChoiceLemmas.{column_plain}
use Rattle.dk_segment.proofs.writing.encode.Goals as goal

pub best_for-encoding-requires-clause-plain : goal.best_for-encoding-requires-clause-plain
best_for-encoding-requires-clause-plain c = column_plain c.args.kind c.args.values.now c.requires
