use Rattle.std.proofs.Common.{sym, subst}
use Rattle.std.specs.Prelude.{slice_get}
use Rattle.dk_group.specs.declared.tests.TheConstants.{B}
use Rattle.dk_group.specs.Groups.{GroupRows, IsTopAt}
use Rattle.dk_group.proofs.tests.committed.Goals.{then-len-gt0, else-len-gt0}
use Rattle.dk_group.proofs.tests.committed.Goals as goal

pub returns : goal.returns
returns c = elim c.if-len-gt0.branch [
  | then-len-gt0 w ↦ subst (λ (g : GroupRows). IsTopAt B (slice_get g.vectors 0)) (sym w.group-is) (w.stamp_append.ensures.tops B 0 c.in_ok-group.ensures)
  | else-len-gt0 w ↦ subst (λ (g : GroupRows). IsTopAt B (slice_get g.vectors 0)) (sym w.group-is) c.in_ok-group.ensures
]
