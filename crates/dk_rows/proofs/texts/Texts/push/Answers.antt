use Rattle.dk_rows.proofs.PartsLemmas.{pushed_ends, pushed_part}
use Rattle.dk_rows.proofs.texts.Texts.push.Goals as goal

pub invariant_of-self : goal.invariant_of-self
invariant_of-self c = pushed_ends c.push_text.result 0 _ _ _ _ _ c.self.invariant c.push_text.ensures.bytes c.push_text.ensures.ends c.push_text.ensures.err c.push_text.ensures.same

pub returns-clause-ok : goal.returns-clause-ok
returns-clause-ok c = pushed_part c.push_text.result 0 _ _ _ _ _ _ c.self.invariant c.self.view_is c.push_text.ensures.bytes c.push_text.ensures.ends
