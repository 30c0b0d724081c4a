use Rattle.std.proofs.Common.{◌<◌, length, arith}
use Rattle.dk_stamp.specs.Sees.{sees}
use Rattle.dk_vector.proofs.PageLemmas.{hide_next}
use Rattle.dk_vector.proofs.pages.hide_rows.Goals as goal

pub rows-preserved : goal.rows-preserved
rows-preserved c =
    let within : c.rows.row < length c.rows.rows.rows = omega (arith, c.rows-test.true, c.requires, c.rows.invariant.count) in
    hide_next (sees c.args.snapshot.now) c.args.stamps.now.rows c.rows.row c.get.result c.args.rows.now c.rows.rows c.hide_row.new.rows
    c.get.ensures within c.in_ok-hide_row.ensures c.rows.invariant
