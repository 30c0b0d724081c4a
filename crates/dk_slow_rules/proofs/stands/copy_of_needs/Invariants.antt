-- So many needs are copied.
use Rattle.std.proofs.Common.{◌≡◌, take}
use Rattle.dk_slow_rules.proofs.stands.copy_of_needs.Given as goal

abbrev pub invariant-loop-need : goal.invariant-loop-need
invariant-loop-need l = l.copy ≡ take l.need-index l.needs
