use Rattle.std.proofs.Common.{ap, ◌∙◌, sym, subst, cond, length}
use Rattle.dk_version.specs.Rows.{VectorStamps}
use Rattle.dk_vector.specs.Stacks.{erased_stamped}
use Rattle.dk_vector.specs.Vectors.{VectorRows, vector_of, stack_at, ArePlaced, has_row}
use Rattle.dk_vector.proofs.EraseLemmas.{erase_at, erased_count}
use Rattle.dk_vector.proofs.WholeLemmas.{with_stamps}
use Rattle.dk_vector.proofs.vector.Vector.stamp_erased.Goals as goal

pub invariant_of-self : goal.invariant_of-self
invariant_of-self c =
    with_stamps c.self.inside.base c.self.inside.chain c.self.inside.stamps c.erase_rows.new.stamps c.self.invariant
    (ap (λ (s : VectorStamps). length s.rows) c.erase_rows.ensures ∙ erased_count c.args.number c.args.rows.now c.self.inside.stamps.rows)

pub returns-clause-rows : goal.returns-clause-rows
returns-clause-rows c =
    let others = c.args.rows.now in
    let vector = vector_of c.self.inside.base c.self.inside.chain c.self.inside.stamps in
    let placed : ArePlaced others vector = subst (λ (v : VectorRows). ArePlaced others v) (sym c.self.view_is) c.requires.placed in
    let is = ap (λ (s : VectorStamps). s.rows) c.erase_rows.ensures in
    λ row. erase_at c.args.number row others vector c.erase_rows.new.stamps.rows placed is
    ∙ ap (λ (v : VectorRows). cond (has_row row others) (erased_stamped c.args.number (stack_at v row)) (stack_at v row)) c.self.view_is

pub returns-clause-count : goal.returns-clause-count
returns-clause-count c =
    ap (λ (s : VectorStamps). length s.rows) c.erase_rows.ensures ∙ erased_count c.args.number c.args.rows.now c.self.inside.stamps.rows
    ∙ ap (λ (v : VectorRows). length v.stamps.rows) c.self.view_is
