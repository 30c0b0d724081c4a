use Rattle.std.proofs.Common.{ap, ◌∙◌, sym, subst, cond}
use Rattle.std.specs.Prelude.{slice_get}
use Rattle.dk_chain.specs.Nodes.{nodes_at}
use Rattle.dk_version.specs.Rows.{VectorStamps}
use Rattle.dk_vector.specs.Stacks.{placed}
use Rattle.dk_vector.specs.Vectors.{VectorRows, vector_of, stack_if, stack_at, base_at}
use Rattle.dk_vector.specs.Spare.{is_spare, AreFresh}
use Rattle.dk_vector.proofs.SpareLemmas.{append_at}
use Rattle.dk_vector.proofs.vector.Vector.append.Goals as goal

pub returns-clause-rows : goal.returns-clause-rows
returns-clause-rows c =
    let vector = vector_of c.self.inside.base c.self.inside.chain c.self.inside.stamps in
    let fresh : AreFresh vector = subst AreFresh (sym c.self.view_is) c.requires.fresh in
    λ row.
    ap (λ (s : VectorStamps). stack_if (slice_get s.rows row) (base_at row vector.base) (nodes_at row vector.nodes)) c.reinsert.ensures
    ∙ append_at c.args.id row vector.stamps.rows (base_at row vector.base) (nodes_at row vector.nodes) c.requires.id (fresh row)
    ∙ ap (λ (v : VectorRows). cond (is_spare (slice_get v.stamps.rows row)) (placed c.args.id (base_at row v.base)) (stack_at v row)) c.self.view_is
