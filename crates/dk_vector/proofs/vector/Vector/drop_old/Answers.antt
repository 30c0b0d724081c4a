use Rattle.std.proofs.Common.{ap, ◌∙◌, sym, subst, length}
use Rattle.std.specs.Prelude.{slice_get, nat_lt}
use Rattle.std.proofs.lemmas.List.Elements.{All-same, All-filter}
use Rattle.dk_chain.specs.declared.node.Node.{Node}
use Rattle.dk_chain.specs.Nodes.{RowNode, nodes_at, above}
use Rattle.dk_vector.specs.Stacks.{pruned}
use Rattle.dk_vector.specs.Vectors.{VectorRows, IsNodeOf, stack_at, base_at, IsOnTop}
use Rattle.dk_vector.proofs.TopLemmas.{top_after_filter}
use Rattle.dk_vector.proofs.VectorLemmas.{drop_rows, drop_first}
use Rattle.dk_vector.proofs.vector.Vector.drop_old.Goals as goal

pub invariant_of-self : goal.invariant_of-self
invariant_of-self c = record {
  even = c.self.invariant.even;
  rows = c.self.invariant.rows;
  nodes = All-same (IsNodeOf c.self.inside.base.kinds (length c.self.inside.base.rows)) c.drop_old.new.self (above c.args.bound c.self.inside.chain) c.drop_old.ensures.nodes
      (All-filter (λ (node : Node). nat_lt c.args.bound node.stamp) (IsNodeOf c.self.inside.base.kinds (length c.self.inside.base.rows)) c.self.inside.chain c.self.invariant.nodes);
  first = λ row. drop_first c.args.bound (nodes_at row c.drop_old.new.self) (nodes_at row c.self.inside.chain) (c.drop_old.ensures.rows row) (c.self.invariant.first row);
}

pub returns-clause-rows : goal.returns-clause-rows
returns-clause-rows c = λ row.
    drop_rows c.args.bound (slice_get c.self.inside.stamps.rows row) (base_at row c.self.inside.base) (nodes_at row c.drop_old.new.self) (nodes_at row c.self.inside.chain)
    c.requires (c.drop_old.ensures.rows row)
    ∙ ap (λ (v : VectorRows). pruned c.args.bound (stack_at v row)) c.self.view_is

pub returns-clause-tops : goal.returns-clause-tops
returns-clause-tops c = λ id top row.
    top_after_filter id (λ (node : RowNode). nat_lt c.args.bound node.stamp) (nodes_at row c.drop_old.new.self) (nodes_at row c.self.inside.chain) (c.drop_old.ensures.rows row)
    (subst (λ (v : VectorRows). IsOnTop id v.nodes) (sym c.self.view_is) top row)
