use Rattle.std.proofs.lemmas.Result.{IfOk-weaker}
use Rattle.dk_segment.proofs.writing.spell_numbers.Goals as goal

pub returns : goal.returns
returns c = IfOk-weaker c.spell_as.result _ _ (λ v h. (c.plan_for.result.encoding, c.plan_for.ensures.best, h)) c.spell_as.ensures
