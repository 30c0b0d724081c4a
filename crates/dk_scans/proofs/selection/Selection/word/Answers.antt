use Rattle.std.proofs.Common.{subst, List, Bool}
use Rattle.std.specs.Int.RustNames.{bit_and}
use Rattle.dk_columns.specs.Flags.{IsWord}
use Rattle.dk_scans.proofs.SelectionLemmas.{both_word}
use Rattle.dk_scans.proofs.selection.Selection.word.Goals as goal

pub returns : goal.returns
returns c =
    subst (λ (all : List Bool). IsWord c.args.k (bit_and c.word.result c.word-2.result) all) c.self.view_is
    (both_word c.self.inside.rows.now c.self.inside.present.now c.args.k c.word.result c.word-2.result c.self.invariant c.word.ensures c.word-2.ensures)
