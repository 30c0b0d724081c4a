use Rattle.std.proofs.Common.{ap, ◌∙◌, sym, subst, cond, length}
use Rattle.std.specs.Prelude.{slice_get, nat_le}
use Rattle.dk_stamp.specs.declared.snapshot.TheConstants.{NEVER}
use Rattle.dk_chain.specs.Nodes.{nodes_at}
use Rattle.dk_version.specs.Rows.{VectorStamps}
use Rattle.dk_vector.specs.Vectors.{VectorRows, vector_of, stack_if, stack_at, base_at}
use Rattle.dk_vector.specs.Spare.{room_at, put_in, AreFreshFrom}
use Rattle.dk_vector.proofs.SpareLemmas.{append_from_at, from_count}
use Rattle.dk_vector.proofs.WholeLemmas.{with_stamps}
use Rattle.dk_vector.proofs.vector.Vector.append_from.Goals as goal

pub invariant_of-self : goal.invariant_of-self
invariant_of-self c =
    with_stamps c.self.inside.base c.self.inside.chain c.self.inside.stamps c.reinsert_from.new.self c.self.invariant
    (ap (λ (s : VectorStamps). length s.rows) c.reinsert_from.ensures ∙ from_count c.args.start NEVER c.args.id c.self.inside.stamps.rows)

pub returns-clause-rows : goal.returns-clause-rows
returns-clause-rows c =
    let vector = vector_of c.self.inside.base c.self.inside.chain c.self.inside.stamps in
    let fresh : AreFreshFrom c.args.start vector = subst (AreFreshFrom c.args.start) (sym c.self.view_is) c.requires.fresh in
    λ row.
    ap (λ (s : VectorStamps). stack_if (slice_get s.rows row) (base_at row vector.base) (nodes_at row vector.nodes)) c.reinsert_from.ensures
    ∙ append_from_at c.args.start c.args.id row vector.stamps.rows (base_at row vector.base) (nodes_at row vector.nodes) c.requires.id (fresh row)
    ∙ ap (λ (v : VectorRows). cond (nat_le c.args.start row) (put_in c.args.id (room_at v row) (stack_at v row)) (stack_at v row)) c.self.view_is

pub returns-clause-count : goal.returns-clause-count
returns-clause-count c =
    ap (λ (s : VectorStamps). length s.rows) c.reinsert_from.ensures ∙ from_count c.args.start NEVER c.args.id c.self.inside.stamps.rows
    ∙ ap (λ (v : VectorRows). length v.stamps.rows) c.self.view_is
