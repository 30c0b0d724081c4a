use Rattle.std.proofs.Common.{ap, ◌∙◌}
use Rattle.dk_version.specs.Rows.{VectorStamps}
use Rattle.dk_vector.specs.Stacks.{pruned}
use Rattle.dk_group.proofs.GroupLemmas.{at_view, tops_view, shape_is}
use Rattle.dk_group.proofs.group.Group.drop_old.Goals as goal

pub returns-clause-rows : goal.returns-clause-rows
returns-clause-rows c =
    let old = c.index_mut.result.now in
    let new = c.drop_old.new.self in
    at_view c.args.at (λ _ stack. pruned c.args.bound stack) c.self.inside.first c.self.inside.settled c.self.inside.vectors.items old new c.args.self.now c.self.view_is c.requires.vector c.index_mut.ensures.value
    (record { shape = shape_is old new c.drop_old.ensures.base c.drop_old.ensures.stamps; rows = c.drop_old.ensures.rows; apart = λ h. ap (λ (s : VectorStamps). s.apart) c.drop_old.ensures.stamps ∙ h })

pub returns-clause-tops : goal.returns-clause-tops
returns-clause-tops c =
    tops_view c.args.at c.self.inside.first c.self.inside.settled c.self.inside.vectors.items c.index_mut.result.now c.drop_old.new.self c.args.self.now c.self.view_is c.requires.vector c.index_mut.ensures.value
    c.drop_old.ensures.tops
