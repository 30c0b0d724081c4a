use Rattle.std.proofs.Common.{[], ap, ◌∙◌, sym, subst}
use Rattle.std.specs.Prelude.{slice_get, not, ◌==◌}
use Rattle.dk_columns.specs.OptionTables.{OptionTable}
use Rattle.dk_stamp.specs.declared.snapshot.TheConstants.{NEVER}
use Rattle.dk_chain.specs.Nodes.{RowNode, nodes_at}
use Rattle.dk_vector.specs.Vectors.{VectorRows, stands, base_at, stack_at, IsOnTop}
use Rattle.dk_vector.specs.Pages.{IsPutBack}
use Rattle.dk_vector.proofs.StandingLemmas.{all_first}
use Rattle.dk_vector.proofs.TopLemmas.{top_after_filter}
use Rattle.dk_vector.proofs.PageLemmas.{clean_stands, clean_stack, clean_fits}
use Rattle.dk_vector.proofs.vector.Vector.clean.Goals as goal

pub invariant_of-self : goal.invariant_of-self
invariant_of-self c =
    let nodes = c.self.inside.chain in
    let written : IsPutBack stands nodes [] c.self.inside.base c.write_back.new.rows =
    subst (λ (t : OptionTable). IsPutBack stands nodes [] t c.write_back.new.rows) c.in_ok-base.ensures c.in_ok-write_back.ensures in
    record {
      even = written.count ∙ c.self.invariant.even;
      rows = written.rows c.self.invariant.rows;
      nodes = clean_fits c.self.inside.base c.write_back.new.rows nodes c.drop_undone.new.self c.drop_undone.ensures.nodes written.kinds written.count c.self.invariant.nodes;
      first = λ row. all_first (nodes_at row c.drop_undone.new.self) (clean_stands (nodes_at row c.drop_undone.new.self) (nodes_at row nodes) (c.drop_undone.ensures.rows row));
    }

pub returns-clause-rows : goal.returns-clause-rows
returns-clause-rows c =
    let nodes = c.self.inside.chain in
    let written : IsPutBack stands nodes [] c.self.inside.base c.write_back.new.rows =
    subst (λ (t : OptionTable). IsPutBack stands nodes [] t c.write_back.new.rows) c.in_ok-base.ensures c.in_ok-write_back.ensures in
    λ row.
    clean_stack (slice_get c.self.inside.stamps.rows row) (base_at row c.self.inside.base) (base_at row c.write_back.new.rows) (nodes_at row c.drop_undone.new.self) (nodes_at row nodes)
    (written.each row) (c.drop_undone.ensures.rows row)
    ∙ ap (λ (v : VectorRows). stack_at v row) c.self.view_is

pub returns-clause-none : goal.returns-clause-none
returns-clause-none c = λ row. clean_stands (nodes_at row c.drop_undone.new.self) (nodes_at row c.self.inside.chain) (c.drop_undone.ensures.rows row)

pub returns-clause-kinds : goal.returns-clause-kinds
returns-clause-kinds c =
    let nodes = c.self.inside.chain in
    let written : IsPutBack stands nodes [] c.self.inside.base c.write_back.new.rows =
    subst (λ (t : OptionTable). IsPutBack stands nodes [] t c.write_back.new.rows) c.in_ok-base.ensures c.in_ok-write_back.ensures in
    written.kinds ∙ ap (λ (v : VectorRows). v.base.kinds) c.self.view_is

pub returns-clause-tops : goal.returns-clause-tops
returns-clause-tops c = λ id top row.
    top_after_filter id (λ (node : RowNode). not (node.stamp == NEVER)) (nodes_at row c.drop_undone.new.self) (nodes_at row c.self.inside.chain) (c.drop_undone.ensures.rows row)
    (subst (λ (v : VectorRows). IsOnTop id v.nodes) (sym c.self.view_is) top row)
