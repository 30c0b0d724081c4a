use Rattle.dk_rows.proofs.RowLemmas.{same_more}
use Rattle.dk_rows.proofs.rows.Rows.is_same.Goals as goal

pub rows-preserved : goal.rows-preserved
rows-preserved c =
    same_more c.args.self.now c.args.other.now _ _ _ c.rows.invariant c.get.ensures c.get-in-rows.ensures (c.is_same.ensures.0 c.if-not-is_same.false)
