use Rattle.std.proofs.Common.{ap, ◌∙◌}
use Rattle.dk_rows.specs.declared.slots.Kind.{Kind}
use Rattle.dk_rows.specs.Slots.{slot_of}
use Rattle.dk_rows.proofs.SlotsLemmas.{pushed_slot}
use Rattle.dk_rows.proofs.slots.Slots.push.Goals as goal

pub returns-clause-ok : goal.returns-clause-ok
returns-clause-ok c =
    pushed_slot c.push_both.result _ _ _ _ _ _ _ _ c.self.invariant c.self.view_is (ap (λ (k : Kind). slot_of k c.word.result) c.kind.ensures ∙ c.word.ensures) c.push_both.ensures.kinds c.push_both.ensures.words
