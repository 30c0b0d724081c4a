use Rattle.std.proofs.Common.{◌∙◌}
use Rattle.dk_group.specs.Groups.{place_stamping}
use Rattle.dk_group.proofs.GroupLemmas.{at_view, tops_view, same_tops, shape_counts}
use Rattle.dk_group.proofs.group.Group.stamp_append.Goals as goal

pub returns-clause-rows : goal.returns-clause-rows
returns-clause-rows c =
    let old = c.index_mut.result.now in
    let new = c.stamp_append.new.self in
    at_view c.args.at (place_stamping c.args.id c.args.number) c.self.inside.first c.self.inside.settled c.self.inside.vectors.items old new c.args.self.now c.self.view_is c.requires.vector c.index_mut.ensures.value
    (record { shape = shape_counts old new c.stamp_append.ensures.base c.stamp_append.ensures.count; rows = c.stamp_append.ensures.rows; apart = λ h. c.stamp_append.ensures.apart ∙ h })

pub returns-clause-tops : goal.returns-clause-tops
returns-clause-tops c =
    tops_view c.args.at c.self.inside.first c.self.inside.settled c.self.inside.vectors.items c.index_mut.result.now c.stamp_append.new.self c.args.self.now c.self.view_is c.requires.vector c.index_mut.ensures.value
    (same_tops c.index_mut.result.now c.stamp_append.new.self c.stamp_append.ensures.nodes)
