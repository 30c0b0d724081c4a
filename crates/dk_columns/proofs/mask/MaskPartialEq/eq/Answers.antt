use Rattle.std.specs.Bool.{one_answer}
use Rattle.dk_columns.specs.Equal.{flags_decide}
use Rattle.dk_columns.proofs.mask.MaskPartialEq.eq.Goals as goal

pub returns : goal.returns
returns c = one_answer c.is_same.result _ c.is_same.ensures (flags_decide c.args.self.now c.args.other.now)
