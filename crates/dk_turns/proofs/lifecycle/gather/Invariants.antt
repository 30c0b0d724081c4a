use Rattle.std.proofs.Common.{vec_len}
use Rattle.dk_turns.proofs.GatherLemmas.{Gathering}
use Rattle.dk_turns.proofs.lifecycle.gather.Given as goal

abbrev pub invariant-loop-pass : goal.invariant-loop-pass
invariant-loop-pass g l = Gathering l.fn.board.table_id l.fn.passes.items l.passes.items l.keeper.table_id l.keeper.me

abbrev pub decreases-loop-pass : goal.decreases-loop-pass
decreases-loop-pass g l = vec_len l.passes
