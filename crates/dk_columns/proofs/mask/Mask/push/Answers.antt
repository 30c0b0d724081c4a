use Rattle.std.proofs.Common.{◌∙◌}
use Rattle.dk_columns.proofs.MaskLemmas.{same_flags, pushed, on_err}
use Rattle.dk_columns.proofs.mask.Mask.push.Goals as goal

pub returns-in_err-mark-clause-err : goal.returns-in_err-mark-clause-err
returns-in_err-mark-clause-err c =
    on_err _ (same_flags c.self.inside.len c.self.inside.words.items c.mark.new.words.items (λ j lt. c.in_err-mark.ensures.err j) ∙ c.self.view_is)

pub returns-clause-ok : goal.returns-clause-ok
returns-clause-ok c =
    pushed _ _ _ _ _ c.self.view_is c.in_ok-mark.ensures.here c.in_ok-mark.ensures.others
