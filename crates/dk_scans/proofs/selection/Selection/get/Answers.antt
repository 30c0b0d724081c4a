use Rattle.std.proofs.Common.{List, Bool, length, ap, sym, ◌∙◌, arith}
use Rattle.std.specs.Prelude.{slice_get}
use Rattle.dk_scans.proofs.SelectionLemmas.{both_len, both_at}
use Rattle.dk_scans.proofs.selection.Selection.get.Goals as goal

pub get-requires : goal.get-requires
get-requires c =
    omega (arith, c.requires, ap (λ (bs : List Bool). length bs) c.self.view_is, both_len c.self.inside.rows.now c.self.inside.present.now c.self.invariant)

pub get-requires-2 : goal.get-requires-2
get-requires-2 c =
    omega (arith, c.requires, ap (λ (bs : List Bool). length bs) c.self.view_is, both_len c.self.inside.rows.now c.self.inside.present.now c.self.invariant, c.self.invariant)

pub returns : goal.returns
returns c =
    ap (λ (bs : List Bool). slice_get bs c.args.i) (sym c.self.view_is)
    ∙ both_at c.self.inside.rows.now c.self.inside.present.now c.args.i _ _ c.get.ensures c.get-2.ensures
