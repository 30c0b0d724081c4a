use Rattle.std.proofs.Common.{◌<◌, length, ◌∙◌, arith}
use Rattle.dk_columns.proofs.PutLemmas.{cut_more}
use Rattle.dk_columns.proofs.RowLemmas.{set_len}
use Rattle.dk_columns.proofs.option_rows.cut_columns.Goals as goal

pub columns-preserved : goal.columns-preserved
columns-preserved c =
    let within : c.columns.j < length c.columns.columns.items = omega (arith, c.columns-test.true, c.len-j-end.ensures, c.args.columns.now.ok.0, c.columns.invariant.1) in (
      cut_more c.args.n c.columns.j c.args.columns.now.items c.columns.columns.items c.index_mut.result.now _ c.columns.invariant.0 within c.index_mut.ensures.value c.cut.ensures,
      set_len c.columns.columns.items c.columns.j _ ∙ c.columns.invariant.1,
    )
