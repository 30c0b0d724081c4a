use Rattle.std.proofs.Common.{ap, ◌∙◌, cond, length}
use Rattle.std.specs.Prelude.{slice_get}
use Rattle.std.proofs.lemmas.List.Elements.{All-same}
use Rattle.dk_chain.specs.Nodes.{nodes_at, oldest_has, oldest_restamped}
use Rattle.dk_vector.specs.Stacks.{stamped}
use Rattle.dk_vector.specs.Vectors.{VectorRows, IsNodeOf, stack_at, base_at}
use Rattle.dk_vector.proofs.WholeLemmas.{oldest_kept}
use Rattle.dk_vector.proofs.VectorLemmas.{stamp_rows, stamp_first}
use Rattle.dk_vector.proofs.vector.Vector.stamp_update.Goals as goal

pub invariant_of-self : goal.invariant_of-self
invariant_of-self c = record {
  even = c.self.invariant.even;
  rows = c.self.invariant.rows;
  nodes = All-same (IsNodeOf c.self.inside.base.kinds (length c.self.inside.base.rows)) c.stamp_one.new.self (oldest_restamped c.args.id c.args.number c.self.inside.chain) c.stamp_one.ensures.nodes
      (oldest_kept c.self.inside.base.kinds (length c.self.inside.base.rows) c.args.id c.args.number c.self.inside.chain c.self.invariant.nodes);
  first = λ row.
      stamp_first c.args.id c.args.number (nodes_at row c.stamp_one.new.self) (nodes_at row c.self.inside.chain) (oldest_has row c.args.id c.self.inside.chain)
      c.requires.id c.requires.number (c.stamp_one.ensures.rows row) (c.self.invariant.first row);
}

pub returns-clause-rows : goal.returns-clause-rows
returns-clause-rows c = λ row.
    stamp_rows c.args.id c.args.number (slice_get c.self.inside.stamps.rows row) (base_at row c.self.inside.base) (nodes_at row c.stamp_one.new.self) (nodes_at row c.self.inside.chain)
    (oldest_has row c.args.id c.self.inside.chain) c.requires.id c.requires.number (c.stamp_one.ensures.rows row)
    ∙ ap (λ (v : VectorRows). cond (oldest_has row c.args.id v.nodes) (stamped c.args.id c.args.number (stack_at v row)) (stack_at v row)) c.self.view_is
