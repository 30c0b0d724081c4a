use Rattle.std.proofs.Common.{ap, ◌∙◌, sym}
use Rattle.std.specs.Prelude.{slice_get}
use Rattle.dk_vector.specs.Vectors.{stack_at}
use Rattle.dk_group.specs.Groups.{placing}
use Rattle.dk_group.proofs.GroupLemmas.{at_view, tops_view, same_tops, old_is, shape_counts}
use Rattle.dk_group.proofs.group.Group.append.Goals as goal

pub returns-clause-rows : goal.returns-clause-rows
returns-clause-rows c =
    let old = c.index_mut.result.now in
    let new = c.append.new.self in
    let items = c.self.inside.vectors.items in
    let is = old_is c.args.at c.self.inside.first c.self.inside.settled items old c.args.self.now c.self.view_is c.requires.vector c.index_mut.ensures.value in
    at_view c.args.at (placing c.args.id (slice_get c.args.self.now.vectors c.args.at)) c.self.inside.first c.self.inside.settled items old new c.args.self.now c.self.view_is c.requires.vector c.index_mut.ensures.value
    (record {
      shape = shape_counts old new c.append.ensures.base c.append.ensures.count;
      rows = λ row. c.append.ensures.rows row ∙ ap (λ o. placing c.args.id o row (stack_at old row)) (sym is);
      apart = λ h. c.append.ensures.apart ∙ h;
    })

pub returns-clause-tops : goal.returns-clause-tops
returns-clause-tops c =
    tops_view c.args.at c.self.inside.first c.self.inside.settled c.self.inside.vectors.items c.index_mut.result.now c.append.new.self c.args.self.now c.self.view_is c.requires.vector c.index_mut.ensures.value
    (same_tops c.index_mut.result.now c.append.new.self c.append.ensures.nodes)
