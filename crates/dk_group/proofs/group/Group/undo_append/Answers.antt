use Rattle.std.proofs.Common.{◌∙◌}
use Rattle.dk_group.specs.Groups.{displacing}
use Rattle.dk_group.proofs.GroupLemmas.{at_view, tops_view, same_tops, shape_counts}
use Rattle.dk_group.proofs.group.Group.undo_append.Goals as goal

pub returns-clause-rows : goal.returns-clause-rows
returns-clause-rows c =
    let old = c.index_mut.result.now in
    let new = c.undo_append.new.self in
    at_view c.args.at (displacing c.args.id) c.self.inside.first c.self.inside.settled c.self.inside.vectors.items old new c.args.self.now c.self.view_is c.requires.vector c.index_mut.ensures.value
    (record { shape = shape_counts old new c.undo_append.ensures.base c.undo_append.ensures.count; rows = c.undo_append.ensures.rows; apart = λ h. c.undo_append.ensures.apart ∙ h })

pub returns-clause-tops : goal.returns-clause-tops
returns-clause-tops c =
    tops_view c.args.at c.self.inside.first c.self.inside.settled c.self.inside.vectors.items c.index_mut.result.now c.undo_append.new.self c.args.self.now c.self.view_is c.requires.vector c.index_mut.ensures.value
    (same_tops c.index_mut.result.now c.undo_append.new.self c.undo_append.ensures.nodes)
