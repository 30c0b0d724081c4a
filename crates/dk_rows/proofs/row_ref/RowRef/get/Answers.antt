use Rattle.std.proofs.Common.{List, ap, sym, length, ◌∙◌, ◌<◌, ◌-◌, arith}
use Rattle.std.specs.Prelude.{slice_get}
use Rattle.dk_values.specs.declared.value.Value.{Value}
use Rattle.dk_rows.proofs.RowLemmas.{row_len, row_at}
use Rattle.dk_rows.proofs.row_ref.RowRef.get.Goals as goal

pub overflow_add-self-inside : goal.overflow_add-self-inside
overflow_add-self-inside c =
    let len = ap (λ (vs : List Value). length vs) c.self.view_is in
    record { fits = omega (arith, c.requires, len, row_len c.self.inside.values.now _ _ c.self.invariant, c.self.invariant.fits) }

pub get-requires : goal.get-requires
get-requires c =
    let len = ap (λ (vs : List Value). length vs) c.self.view_is in
    omega (arith, c.requires, len, row_len c.self.inside.values.now _ _ c.self.invariant, c.self.invariant.within)

pub returns : goal.returns
returns c =
    let len = ap (λ (vs : List Value). length vs) c.self.view_is in
    let j : c.args.j < c.self.inside.end - c.self.inside.start = omega (arith, c.requires, len, row_len c.self.inside.values.now _ _ c.self.invariant) in
    ap (λ (vs : List Value). slice_get vs c.args.j) (sym c.self.view_is) ∙ row_at _ _ _ _ j ∙ c.get.ensures
