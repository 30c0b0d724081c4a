use Rattle.std.proofs.Common.{refl}
use Rattle.dk_rows.proofs.RowLemmas.{drop_next}
use Rattle.dk_segment.proofs.present.cell_if.Goals as goal

pub returns-then-at-len-clause-value : goal.returns-then-at-len-clause-value
returns-then-at-len-clause-value c = rw (drop_next _ _ _ c.get.ensures.value, c.if-flag-eq1.true) refl
