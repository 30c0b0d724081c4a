use Rattle.std.proofs.Common.{ap, ◌∙◌, cond, sym, subst, length}
use Rattle.std.specs.Prelude.{slice_get}
use Rattle.std.proofs.lemmas.List.Elements.{All-same}
use Rattle.dk_stamp.specs.declared.snapshot.TheConstants.{NEVER}
use Rattle.dk_chain.specs.Nodes.{nodes_at, newest_has, newest_restamped}
use Rattle.dk_vector.specs.Stacks.{undone}
use Rattle.dk_vector.specs.Vectors.{VectorRows, IsNodeOf, stack_at, base_at, IsOnTop}
use Rattle.dk_vector.proofs.WholeLemmas.{newest_kept}
use Rattle.dk_vector.proofs.TopLemmas.{top_of, top_after_undo}
use Rattle.dk_vector.proofs.VectorLemmas.{undo_rows, undo_first}
use Rattle.dk_vector.proofs.vector.Vector.undo_update.Goals as goal

pub invariant_of-self : goal.invariant_of-self
invariant_of-self c =
    let top : IsOnTop c.args.id c.self.inside.chain = subst (λ (v : VectorRows). IsOnTop c.args.id v.nodes) (sym c.self.view_is) c.requires.top in
    record {
      even = c.self.invariant.even;
      rows = c.self.invariant.rows;
      nodes = All-same (IsNodeOf c.self.inside.base.kinds (length c.self.inside.base.rows)) c.undo_one.new.self (newest_restamped c.args.id NEVER c.self.inside.chain) c.undo_one.ensures.nodes
          (newest_kept c.self.inside.base.kinds (length c.self.inside.base.rows) c.args.id NEVER c.self.inside.chain c.self.invariant.nodes);
      first = λ row. undo_first c.args.id (nodes_at row c.undo_one.new.self) (nodes_at row c.self.inside.chain) (newest_has row c.args.id c.self.inside.chain)
          c.requires.id (top_of c.args.id c.requires.id c.self.inside.chain top row) (c.undo_one.ensures.rows row) (c.self.invariant.first row);
    }

pub returns-clause-rows : goal.returns-clause-rows
returns-clause-rows c =
    let top : IsOnTop c.args.id c.self.inside.chain = subst (λ (v : VectorRows). IsOnTop c.args.id v.nodes) (sym c.self.view_is) c.requires.top in
    λ row.
    undo_rows c.args.id (slice_get c.self.inside.stamps.rows row) (base_at row c.self.inside.base) (nodes_at row c.undo_one.new.self) (nodes_at row c.self.inside.chain)
    (newest_has row c.args.id c.self.inside.chain) c.requires.id (top_of c.args.id c.requires.id c.self.inside.chain top row) (c.self.invariant.first row) (c.undo_one.ensures.rows row)
    ∙ ap (λ (v : VectorRows). cond (newest_has row c.args.id v.nodes) (undone (stack_at v row)) (stack_at v row)) c.self.view_is

pub returns-clause-top : goal.returns-clause-top
returns-clause-top c =
    let top : IsOnTop c.args.id c.self.inside.chain = subst (λ (v : VectorRows). IsOnTop c.args.id v.nodes) (sym c.self.view_is) c.requires.top in
    λ row.
    top_after_undo c.args.id c.requires.id (nodes_at row c.undo_one.new.self) (nodes_at row c.self.inside.chain) (newest_has row c.args.id c.self.inside.chain)
    (c.undo_one.ensures.rows row) (top row)
