use Rattle.std.proofs.Common.{ap, ◌∙◌, sym, subst, cond, length}
use Rattle.dk_version.specs.Rows.{VectorStamps}
use Rattle.dk_vector.specs.Stacks.{erased}
use Rattle.dk_vector.specs.Vectors.{VectorRows, vector_of, stack_at, ArePlaced, has_row, erased_rows}
use Rattle.dk_vector.proofs.EraseLemmas.{erase_at, erased_count}
use Rattle.dk_vector.proofs.WholeLemmas.{with_stamps}
use Rattle.dk_vector.proofs.vector.Vector.erase.Goals as goal

pub invariant_of-self-2 : goal.invariant_of-self-2
invariant_of-self-2 c =
    let split = ap (λ (s : VectorStamps). length s.rows) c.in_ok-split.ensures.ok in
    with_stamps c.self.inside.base c.self.inside.chain c.self.inside.stamps c.erase_rows.new.stamps c.self.invariant
    (ap (λ (s : VectorStamps). length s.rows) c.erase_rows.ensures ∙ erased_count c.args.id c.args.rows.now c.split.new.self.rows ∙ split)

pub returns-clause-ok : goal.returns-clause-ok
returns-clause-ok c =
    let id = c.args.id in
    let others = c.args.rows.now in
    let vector = vector_of c.self.inside.base c.self.inside.chain c.self.inside.stamps in
    let placed : ArePlaced others vector = subst (λ (v : VectorRows). ArePlaced others v) (sym c.self.view_is) c.requires in
    let is = ap (λ (s : VectorStamps). s.rows) c.erase_rows.ensures ∙ ap (λ (s : VectorStamps). erased_rows id others s.rows) c.in_ok-split.ensures.ok in
    λ row. erase_at id row others vector c.erase_rows.new.stamps.rows placed is
    ∙ ap (λ (v : VectorRows). cond (has_row row others) (erased id (stack_at v row)) (stack_at v row)) c.self.view_is

pub returns-clause-count : goal.returns-clause-count
returns-clause-count c =
    let split = ap (λ (s : VectorStamps). length s.rows) c.in_ok-split.ensures.ok in
    ap (λ (s : VectorStamps). length s.rows) c.erase_rows.ensures ∙ erased_count c.args.id c.args.rows.now c.split.new.self.rows ∙ split
    ∙ ap (λ (v : VectorRows). length v.stamps.rows) c.self.view_is
