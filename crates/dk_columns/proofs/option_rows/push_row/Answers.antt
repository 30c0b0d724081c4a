use Rattle.dk_columns.proofs.MaskLemmas.{on_err}
use Rattle.dk_columns.proofs.RowLemmas.{put_behind, pushed}
use Rattle.dk_columns.proofs.option_rows.push_row.Goals as goal

pub returns-in_err-put_row-clause-long : goal.returns-in_err-put_row-clause-long
returns-in_err-put_row-clause-long g c =
    (put_behind c.len.result c.args.present.now c.args.columns.now.items c.put_row.new.columns.items (g.R.LendRow.values c.args.row.now) c.len.ensures c.requires.long c.requires.fits c.in_err-put_row.ensures.err).0

pub returns-in_err-put_row-clause-err : goal.returns-in_err-put_row-clause-err
returns-in_err-put_row-clause-err g c =
    on_err _ (put_behind c.len.result c.args.present.now c.args.columns.now.items c.put_row.new.columns.items (g.R.LendRow.values c.args.row.now) c.len.ensures c.requires.long c.requires.fits c.in_err-put_row.ensures.err).1

pub returns-clause-long : goal.returns-clause-long
returns-clause-long g c =
    (pushed c.push.result c.len.result c.args.present.now c.push.new.self c.args.columns.now.items c.put_row.new.columns.items (g.R.LendRow.values c.args.row.now) c.args.there c.len.ensures c.requires.long c.requires.fits c.in_ok-put_row.ensures.ok c.push.ensures.ok c.push.ensures.err).0

pub returns-clause-ok : goal.returns-clause-ok
returns-clause-ok g c =
    (pushed c.push.result c.len.result c.args.present.now c.push.new.self c.args.columns.now.items c.put_row.new.columns.items (g.R.LendRow.values c.args.row.now) c.args.there c.len.ensures c.requires.long c.requires.fits c.in_ok-put_row.ensures.ok c.push.ensures.ok c.push.ensures.err).1

pub returns-clause-err : goal.returns-clause-err
returns-clause-err g c =
    (pushed c.push.result c.len.result c.args.present.now c.push.new.self c.args.columns.now.items c.put_row.new.columns.items (g.R.LendRow.values c.args.row.now) c.args.there c.len.ensures c.requires.long c.requires.fits c.in_ok-put_row.ensures.ok c.push.ensures.ok c.push.ensures.err).2
