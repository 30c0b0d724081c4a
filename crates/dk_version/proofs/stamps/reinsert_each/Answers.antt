use Rattle.std.proofs.Common.{arith, ◌<◌, ◌∙◌, ap, length, set}
use Rattle.std.proofs.lemmas.List.Edits.{map_over_more}
use Rattle.dk_version.specs.declared.stamps.Stamp.{Stamp}
use Rattle.dk_version.specs.Rows.{reinserted}
use Rattle.dk_version.proofs.stamps.reinsert_each.Goals as goal

pub rows-preserved : goal.rows-preserved
rows-preserved c =
    let old = c.args.stamps.now.items in
    let within : c.rows.i < length old = omega (arith, c.rows-test.true, c.len-i-end.ensures, c.args.stamps.now.ok.0) in
    ap (λ (s : Stamp). set c.rows.stamps.items c.rows.i s) c.reinserted.ensures
    ∙ map_over_more (reinserted c.args.from c.args.to) old c.rows.stamps.items c.rows.i c.index.result.now within c.rows.invariant c.index.ensures
