use Rattle.std.proofs.Common.{List, ℤ, Some, ap, sym, ◌∙◌}
use Rattle.std.specs.Prelude.{slice_get}
use Rattle.dk_values.specs.declared.value.Value.{Value}
use Rattle.dk_rows.specs.Values.{value_in}
use Rattle.dk_rows.proofs.ValuesLemmas.{there_at, value_at}
use Rattle.dk_rows.proofs.values.Values.get.Goals as goal

pub cell_in-requires : goal.cell_in-requires
cell_in-requires c = rw c.deref.ensures.value (there_at _ _ 0 0 _ _ _ c.self.invariant c.get.ensures)

pub returns : goal.returns
returns c =
    ap (λ (vs : List Value). slice_get vs c.args.i) (sym c.self.view_is)
    ∙ value_at c.self.inside.texts c.self.inside.sums.items c.self.inside.slots c.args.i c.get.result c.get.ensures
    ∙ ap (λ (v : Value). Some v) (ap (λ (ss : List ℤ). value_in c.self.inside.texts ss c.get.result) (sym c.deref.ensures.value) ∙ sym c.cell_in.ensures)
