use Rattle.std.proofs.Common.{arith}
use Rattle.dk_columns.proofs.MaskLemmas.{on_err}
use Rattle.dk_columns.proofs.PutLemmas.{long_less}
use Rattle.dk_columns.proofs.RowLemmas.{set_front, set_again}
use Rattle.dk_columns.proofs.option_rows.set_row.Goals as goal

pub put_row-requires-clause-long : goal.put_row-requires-clause-long
put_row-requires-clause-long g c = long_less c.args.i _ c.args.columns.now.items (omega (arith, c.requires.within)) c.requires.long

pub returns-in_err-put_row-clause-long : goal.returns-in_err-put_row-clause-long
returns-in_err-put_row-clause-long g c =
    (set_front c.args.present.now c.set.new.self c.args.columns.now.items c.put_row.new.columns.items (g.R.LendRow.values c.args.row.now) c.args.i c.requires.within c.requires.long c.requires.fits c.in_ok-set.ensures.ok c.in_err-put_row.ensures.err).0

pub returns-in_err-put_row-clause-err : goal.returns-in_err-put_row-clause-err
returns-in_err-put_row-clause-err g c =
    on_err _ (set_front c.args.present.now c.set.new.self c.args.columns.now.items c.put_row.new.columns.items (g.R.LendRow.values c.args.row.now) c.args.i c.requires.within c.requires.long c.requires.fits c.in_ok-set.ensures.ok c.in_err-put_row.ensures.err).1

pub returns-clause-long : goal.returns-clause-long
returns-clause-long g c =
    (set_again c.set-2.result c.args.present.now c.set.new.self c.set-2.new.self c.args.columns.now.items c.put_row.new.columns.items (g.R.LendRow.values c.args.row.now) c.args.i c.args.there c.requires.within c.requires.long c.requires.fits c.in_ok-set.ensures.ok c.in_ok-put_row.ensures.ok c.set-2.ensures.ok c.set-2.ensures.err).0

pub returns-clause-ok : goal.returns-clause-ok
returns-clause-ok g c =
    (set_again c.set-2.result c.args.present.now c.set.new.self c.set-2.new.self c.args.columns.now.items c.put_row.new.columns.items (g.R.LendRow.values c.args.row.now) c.args.i c.args.there c.requires.within c.requires.long c.requires.fits c.in_ok-set.ensures.ok c.in_ok-put_row.ensures.ok c.set-2.ensures.ok c.set-2.ensures.err).1

pub returns-clause-err : goal.returns-clause-err
returns-clause-err g c =
    (set_again c.set-2.result c.args.present.now c.set.new.self c.set-2.new.self c.args.columns.now.items c.put_row.new.columns.items (g.R.LendRow.values c.args.row.now) c.args.i c.args.there c.requires.within c.requires.long c.requires.fits c.in_ok-set.ensures.ok c.in_ok-put_row.ensures.ok c.set-2.ensures.ok c.set-2.ensures.err).2
