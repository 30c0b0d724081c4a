use Rattle.dk_group.specs.Groups.{erase_stamping}
use Rattle.dk_group.proofs.GroupLemmas.{at_view, tops_view, same_tops, shape_counts}
use Rattle.dk_group.proofs.group.Group.stamp_delete.Goals as goal

pub returns-clause-rows : goal.returns-clause-rows
returns-clause-rows c =
    let old = c.index_mut.result.now in
    let new = c.stamp_erased.new.self in
    at_view c.args.at (erase_stamping c.args.number c.args.rows.now) c.self.inside.first c.self.inside.settled c.self.inside.vectors.items old new c.args.self.now c.self.view_is c.requires.vector c.index_mut.ensures.value
    (record { shape = shape_counts old new c.stamp_erased.ensures.base c.stamp_erased.ensures.count; rows = c.stamp_erased.ensures.rows; apart = λ h. c.stamp_erased.ensures.apart })

pub returns-clause-tops : goal.returns-clause-tops
returns-clause-tops c =
    tops_view c.args.at c.self.inside.first c.self.inside.settled c.self.inside.vectors.items c.index_mut.result.now c.stamp_erased.new.self c.args.self.now c.self.view_is c.requires.vector c.index_mut.ensures.value
    (same_tops c.index_mut.result.now c.stamp_erased.new.self c.stamp_erased.ensures.nodes)
