use Rattle.std.proofs.Common.{ap, ◌∙◌, sym, cond}
use Rattle.std.specs.Prelude.{slice_get}
use Rattle.dk_version.specs.Rows.{VectorStamps}
use Rattle.dk_vector.specs.Stacks.{stamped}
use Rattle.dk_vector.specs.Vectors.{stack_at}
use Rattle.dk_group.specs.Groups.{stamping, oldest_in}
use Rattle.dk_group.proofs.GroupLemmas.{at_view, old_is, shape_is}
use Rattle.dk_group.proofs.group.Group.stamp_update.Goals as goal

pub returns : goal.returns
returns c =
    let old = c.index_mut.result.now in
    let new = c.stamp_update.new.self in
    let items = c.self.inside.vectors.items in
    let is = old_is c.args.at c.self.inside.first c.self.inside.settled items old c.args.self.now c.self.view_is c.requires.vector c.index_mut.ensures.value in
    at_view c.args.at (stamping c.args.id c.args.number (slice_get c.args.self.now.vectors c.args.at)) c.self.inside.first c.self.inside.settled items old new c.args.self.now c.self.view_is c.requires.vector c.index_mut.ensures.value
    (record {
      shape = shape_is old new c.stamp_update.ensures.base c.stamp_update.ensures.stamps;
      rows = λ row. c.stamp_update.ensures.rows row ∙ ap (λ o. cond (oldest_in c.args.id o row) (stamped c.args.id c.args.number (stack_at old row)) (stack_at old row)) (sym is);
      apart = λ h. ap (λ (s : VectorStamps). s.apart) c.stamp_update.ensures.stamps ∙ h;
    })
