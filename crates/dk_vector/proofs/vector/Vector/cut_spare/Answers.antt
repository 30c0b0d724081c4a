use Rattle.std.proofs.Common.{ℕ, true, ◌<◌, ◌-◌, refl, ap, ◌≡◌, ◌∙◌, sym, subst, length}
use Rattle.dk_columns.specs.OptionTables.{OptionTable, with_rows_front}
use Rattle.dk_version.specs.Rows.{VectorStamps}
use Rattle.dk_vector.specs.Vectors.{VectorRows, IsVector, vector_of, stack_at}
use Rattle.dk_vector.specs.Changes.{NoneUndone}
use Rattle.dk_vector.specs.Spare.{is_kept, kept_rows}
use Rattle.dk_vector.proofs.KeptLemmas.{cut_is, cut_row, cut_count, cut_last}
use Rattle.dk_vector.proofs.vector.Vector.cut_spare.Goals as goal

pub invariant_of-self : goal.invariant_of-self
invariant_of-self c =
    let inside = c.self.inside in
    let n = c.kept_rows-n.result in
    let none : NoneUndone inside.chain = subst (λ (v : VectorRows). NoneUndone v.nodes) (sym c.self.view_is) c.requires.none in
    let kept : n ≡ kept_rows (vector_of inside.base inside.chain inside.stamps) = c.kept_rows-n.ensures ∙ ap kept_rows (sym c.self.view_is) in
    subst (λ (b : OptionTable). IsVector b inside.chain c.truncate-2.new.self) (sym c.truncate.ensures)
    (subst (IsVector (with_rows_front n inside.base) inside.chain) (sym c.truncate-2.ensures)
    (cut_is inside.base inside.chain inside.stamps n c.self.invariant none kept))

pub returns-clause-count : goal.returns-clause-count
returns-clause-count c =
    let inside = c.self.inside in
    let n = c.kept_rows-n.result in
    let none : NoneUndone inside.chain = subst (λ (v : VectorRows). NoneUndone v.nodes) (sym c.self.view_is) c.requires.none in
    let kept : n ≡ kept_rows (vector_of inside.base inside.chain inside.stamps) = c.kept_rows-n.ensures ∙ ap kept_rows (sym c.self.view_is) in
    ap (λ (s : VectorStamps). length s.rows) c.truncate-2.ensures
    ∙ cut_count inside.base inside.chain inside.stamps n c.self.invariant none kept
    ∙ c.kept_rows-n.ensures

pub returns-clause-rows : goal.returns-clause-rows
returns-clause-rows c =
    let inside = c.self.inside in
    let n = c.kept_rows-n.result in
    let none : NoneUndone inside.chain = subst (λ (v : VectorRows). NoneUndone v.nodes) (sym c.self.view_is) c.requires.none in
    let kept : n ≡ kept_rows (vector_of inside.base inside.chain inside.stamps) = c.kept_rows-n.ensures ∙ ap kept_rows (sym c.self.view_is) in
    λ row.
    ap (λ (b : OptionTable). stack_at (vector_of b inside.chain c.truncate-2.new.self) row) c.truncate.ensures
    ∙ ap (λ (s : VectorStamps). stack_at (vector_of (with_rows_front n inside.base) inside.chain s) row) c.truncate-2.ensures
    ∙ cut_row inside.base inside.chain inside.stamps n c.self.invariant none kept row
    ∙ ap (λ (v : VectorRows). stack_at v row) c.self.view_is

pub returns-clause-last : goal.returns-clause-last
returns-clause-last c =
    let inside = c.self.inside in
    let n = c.kept_rows-n.result in
    let none : NoneUndone inside.chain = subst (λ (v : VectorRows). NoneUndone v.nodes) (sym c.self.view_is) c.requires.none in
    let kept : n ≡ kept_rows (vector_of inside.base inside.chain inside.stamps) = c.kept_rows-n.ensures ∙ ap kept_rows (sym c.self.view_is) in
    let count = ap (λ (s : VectorStamps). length s.rows) c.truncate-2.ensures ∙ cut_count inside.base inside.chain inside.stamps n c.self.invariant none kept in
    let now = vector_of c.truncate.new.self inside.chain c.truncate-2.new.self in
    λ some.
    subst (λ (m : ℕ). is_kept now (m - 1) ≡ true) (sym count)
    (cut_last inside.base inside.chain inside.stamps n c.self.invariant none kept now refl c.truncate-2.ensures (subst (λ (m : ℕ). 0 < m) count some))
