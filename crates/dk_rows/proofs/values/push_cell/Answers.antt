use Rattle.dk_rows.proofs.ValuesLemmas.{named_one_more, values_more}
use Rattle.dk_rows.proofs.values.push_cell.Goals as goal

pub returns-in-Ok-clause-named : goal.returns-in-Ok-clause-named
returns-in-Ok-clause-named c = rw c.in-Ok.ensures.ok (named_one_more _ _ _ _ _ _ _ c.requires c.in_ok-slot.ensures.ok)

pub returns-in-Ok-clause-ok : goal.returns-in-Ok-clause-ok
returns-in-Ok-clause-ok c = rw c.in-Ok.ensures.ok (values_more _ _ _ _ _ _ _ c.requires c.in_ok-slot.ensures.ok)
