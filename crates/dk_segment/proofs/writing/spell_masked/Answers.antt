use Rattle.std.proofs.lemmas.Result.{IfOk-weaker}
use Rattle.dk_segment.proofs.writing.spell_masked.Goals as goal

pub returns : goal.returns
returns c = IfOk-weaker c.spell_masked_as.result _ _ (λ v h. (c.plan_for.result.encoding, c.plan_for.ensures.best, h)) c.spell_masked_as.ensures
