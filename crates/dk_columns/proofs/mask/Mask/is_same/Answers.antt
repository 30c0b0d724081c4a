use Rattle.dk_rows.proofs.RowLemmas.{same_more}
use Rattle.dk_columns.proofs.mask.Mask.is_same.Goals as goal

pub flags-preserved : goal.flags-preserved
flags-preserved c =
    same_more c.args.self.now c.args.other.now _ _ _ c.flags.invariant c.get.ensures c.get-in-flags.ensures (c.is_same_flag.ensures.0 c.if-not-is_same_flag.false)
