use Rattle.std.proofs.Common.{subst, ap, ◌∙◌, sym, cond}
use Rattle.std.specs.Prelude.{slice_get}
use Rattle.dk_version.specs.Rows.{VectorStamps}
use Rattle.dk_vector.specs.Stacks.{undone}
use Rattle.dk_vector.specs.Vectors.{stack_at}
use Rattle.dk_group.specs.Groups.{undoing, newest_in, IsTopAt}
use Rattle.dk_group.proofs.GroupLemmas.{at_view, new_is, old_is, shape_is}
use Rattle.dk_group.proofs.group.Group.undo_update.Goals as goal

pub returns-clause-rows : goal.returns-clause-rows
returns-clause-rows c =
    let old = c.index_mut.result.now in
    let new = c.undo_update.new.self in
    let items = c.self.inside.vectors.items in
    let is = old_is c.args.at c.self.inside.first c.self.inside.settled items old c.args.self.now c.self.view_is c.requires.vector c.index_mut.ensures.value in
    at_view c.args.at (undoing c.args.id (slice_get c.args.self.now.vectors c.args.at)) c.self.inside.first c.self.inside.settled items old new c.args.self.now c.self.view_is c.requires.vector c.index_mut.ensures.value
    (record {
      shape = shape_is old new c.undo_update.ensures.base c.undo_update.ensures.stamps;
      rows = λ row. c.undo_update.ensures.rows row ∙ ap (λ o. cond (newest_in c.args.id o row) (undone (stack_at old row)) (stack_at old row)) (sym is);
      apart = λ h. ap (λ (s : VectorStamps). s.apart) c.undo_update.ensures.stamps ∙ h;
    })

pub returns-clause-top : goal.returns-clause-top
returns-clause-top c =
    subst (IsTopAt c.args.id) (sym (new_is c.args.at c.self.inside.first c.self.inside.settled c.self.inside.vectors.items c.undo_update.new.self c.args.self.now c.self.view_is c.requires.vector)) c.undo_update.ensures.top
