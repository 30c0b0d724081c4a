use Rattle.std.proofs.Common.{Option, List, ℕ, subst, sym}
use Rattle.dk_scans.specs.Extremes.{beats, text_less, IsExtreme}
use Rattle.dk_scans.specs.Selection.{texts}
use Rattle.dk_scans.proofs.ExtremeLemmas.{extreme_is, beats_order, texts_ordered}
use Rattle.dk_scans.proofs.scan.extreme_text.Goals as goal

pub returns-clause-extreme : goal.returns-clause-extreme
returns-clause-extreme c =
    let all = texts c.args.rows.now c.args.cells.now.values in
    subst (λ (best : Option (List ℕ)). IsExtreme (beats text_less c.args.extreme) all best) (sym c.best_text.ensures) (extreme_is (beats_order texts_ordered c.args.extreme) all)
