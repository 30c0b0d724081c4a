-- Both sides compute.
use Rattle.std.proofs.Common.{refl}
use Rattle.dk_alone.proofs.one_thread.answers_by_hand.Goals as goal

pub returns : goal.returns
returns c = refl
