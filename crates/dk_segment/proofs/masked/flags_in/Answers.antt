use Rattle.dk_segment.proofs.MaskedLemmas.{one_flag}
use Rattle.dk_segment.proofs.masked.flags_in.Goals as goal

pub flags-preserved : goal.flags-preserved
flags-preserved c = one_flag _ _ _ _ _ _ c.get.ensures c.bit_of.ensures c.flags.invariant c.in_ok-push.ensures.items
