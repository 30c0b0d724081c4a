use Rattle.std.proofs.Common.{[], ◌∷◌, ◌++◌, length, ap, ◌∙◌, sym, subst}
use Rattle.std.proofs.lemmas.List.Elements.{All-same}
use Rattle.dk_columns.specs.OptionTables.{OptionTable}
use Rattle.dk_chain.specs.Nodes.{nodes_at, old_in}
use Rattle.dk_vector.specs.Vectors.{VectorRows, vector_of, IsNodeOf, stack_at, ArePlaced, IsOnTop}
use Rattle.dk_vector.specs.Changes.{IsWritten, NoneUndone, updated_if}
use Rattle.dk_vector.proofs.StandingLemmas.{all_first}
use Rattle.dk_vector.proofs.TopLemmas.{top_changed}
use Rattle.dk_vector.proofs.WholeLemmas.{change_fits, placed_below}
use Rattle.dk_vector.proofs.ChangeLemmas.{change_stands, change_at}
use Rattle.dk_vector.proofs.vector.Vector.change.Goals as goal

pub invariant_of-self-2 : goal.invariant_of-self-2
invariant_of-self-2 c =
    let none : NoneUndone c.self.inside.chain = subst (λ (v : VectorRows). NoneUndone v.nodes) (sym c.self.view_is) c.requires.none in
    let written : IsWritten c.args.rows.now c.args.values.now c.self.inside.base c.write_rows.new.base = subst (λ (t : OptionTable). IsWritten c.args.rows.now c.args.values.now t c.write_rows.new.base) c.in_ok-base.ensures c.in_ok-write_rows.ensures in
    let node = c.in_ok-new.field-0 in
    let placed : ArePlaced c.args.rows.now (vector_of c.self.inside.base c.self.inside.chain c.self.inside.stamps) = subst (λ (v : VectorRows). ArePlaced c.args.rows.now v) (sym c.self.view_is) c.requires.placed in
    record {
      even = written.count ∙ c.self.invariant.even;
      rows = written.rows c.self.invariant.rows;
      nodes = All-same (IsNodeOf c.write_rows.new.base.kinds (length c.write_rows.new.base.rows)) c.push.new.self (c.self.inside.chain ++ node ∷ []) c.in_ok-push.ensures.ok
          (change_fits c.self.inside.base c.write_rows.new.base c.self.inside.chain node c.args.rows.now c.self.invariant.rows
          (placed_below c.args.rows.now c.self.inside.base c.self.inside.chain c.self.inside.stamps c.self.invariant.even placed)
          c.in_ok-new.ensures.offsets (c.in_ok-new.ensures.old ∙ c.in_ok-old.ensures) written.kinds written.count c.self.invariant.nodes);
      first = λ row. all_first (nodes_at row c.push.new.self)
          (change_stands c.args.id c.requires.id row c.in_ok-new.field-0 (nodes_at row c.push.new.self) (nodes_at row c.self.inside.chain) c.in_ok-new.ensures.stamp (c.in_ok-push.ensures.rows row) (none row));
    }

pub returns-clause-none : goal.returns-clause-none
returns-clause-none c =
    let none : NoneUndone c.self.inside.chain = subst (λ (v : VectorRows). NoneUndone v.nodes) (sym c.self.view_is) c.requires.none in
    λ row. change_stands c.args.id c.requires.id row c.in_ok-new.field-0 (nodes_at row c.push.new.self) (nodes_at row c.self.inside.chain) c.in_ok-new.ensures.stamp (c.in_ok-push.ensures.rows row) (none row)

pub returns-clause-rows : goal.returns-clause-rows
returns-clause-rows c =
    let rows = c.args.rows.now in
    let values = c.args.values.now in
    let vector = vector_of c.self.inside.base c.self.inside.chain c.self.inside.stamps in
    let none : NoneUndone c.self.inside.chain = subst (λ (v : VectorRows). NoneUndone v.nodes) (sym c.self.view_is) c.requires.none in
    let placed : ArePlaced rows vector = subst (λ (v : VectorRows). ArePlaced rows v) (sym c.self.view_is) c.requires.placed in
    let written : IsWritten rows values c.self.inside.base c.write_rows.new.base = subst (λ (t : OptionTable). IsWritten rows values t c.write_rows.new.base) c.in_ok-base.ensures c.in_ok-write_rows.ensures in
    λ row. change_at c.args.id c.requires.id row c.in_ok-new.field-0 rows values vector c.write_rows.new.base (nodes_at row c.push.new.self)
    c.in_ok-new.ensures.stamp c.in_ok-new.ensures.offsets (c.in_ok-new.ensures.old ∙ c.in_ok-old.ensures) c.requires.count
    (c.in_ok-push.ensures.rows row) written none placed
    ∙ ap (λ (v : VectorRows). updated_if c.args.id (old_in row rows values) (stack_at v row)) c.self.view_is

pub returns-clause-top : goal.returns-clause-top
returns-clause-top c = λ top row.
    top_changed c.args.id c.requires.id c.in_ok-new.field-0 (nodes_at row c.push.new.self) (nodes_at row c.self.inside.chain) row c.in_ok-new.ensures.stamp (c.in_ok-push.ensures.rows row)
    (subst (λ (v : VectorRows). IsOnTop c.args.id v.nodes) (sym c.self.view_is) top row)
