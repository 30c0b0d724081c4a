use Rattle.dk_group.proofs.GroupLemmas.{ok_after}
use Rattle.dk_group.proofs.edits.write_vector.Goals as goal

pub returns-clause-top : goal.returns-clause-top
returns-clause-top c = ok_after c.change.result (λ top before. top (c.in_ok-clean.ensures.tops c.args.id before)) c.change.ensures.top
