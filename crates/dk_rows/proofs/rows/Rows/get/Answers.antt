use Rattle.std.proofs.Common.{ap, arith, length, List, ℕ}
use Rattle.dk_values.specs.declared.value.Value.{Value}
use Rattle.dk_rows.proofs.PartsLemmas.{parts_len}
use Rattle.dk_rows.proofs.rows.Rows.get.Goals as goal

pub row_at-requires-clause-within : goal.row_at-requires-clause-within
row_at-requires-clause-within c =
    let e = ap (λ (rows : List (List Value)). length rows) c.self.view_is in
    let f = ap (λ (ends : List ℕ). length ends) c.deref.ensures.value in
    omega (arith, c.requires, e, f, parts_len 0 c.self.inside.values c.self.inside.ends.items)
