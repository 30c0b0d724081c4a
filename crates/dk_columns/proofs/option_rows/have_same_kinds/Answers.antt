use Rattle.dk_rows.proofs.RowLemmas.{same_more}
use Rattle.dk_columns.specs.OptionTables.{kinds_of}
use Rattle.dk_columns.proofs.option_rows.have_same_kinds.Goals as goal

pub columns-preserved : goal.columns-preserved
columns-preserved c =
    same_more (kinds_of c.args.columns.now) (kinds_of c.args.others.now) _ _ _ c.columns.invariant c.kind_at.ensures c.kind_at-in-columns.ensures (c.is_same_kind.ensures.0 c.if-not-is_same_kind.false)
