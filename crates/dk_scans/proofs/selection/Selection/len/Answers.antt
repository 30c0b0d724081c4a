use Rattle.std.proofs.Common.{List, Bool, length, ap, sym, ◌∙◌}
use Rattle.dk_scans.proofs.SelectionLemmas.{both_len}
use Rattle.dk_scans.proofs.selection.Selection.len.Goals as goal

pub returns : goal.returns
returns c =
    c.len.ensures ∙ sym (both_len c.self.inside.rows.now c.self.inside.present.now c.self.invariant) ∙ ap (λ (bs : List Bool). length bs) c.self.view_is
