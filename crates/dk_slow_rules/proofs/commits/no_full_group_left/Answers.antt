-- The own rows are those of the net behind the call.
use Rattle.std.proofs.Common.{◌∙◌}
use Rattle.dk_slow_rules.proofs.CommitLemmas.{full_alike}
use Rattle.dk_slow_rules.proofs.commits.no_full_group_left.Goals as goal

pub returns : goal.returns
returns c = c.no_full_group_left.ensures ∙ full_alike _ _ _ _ c.requires.net c.requires.made
