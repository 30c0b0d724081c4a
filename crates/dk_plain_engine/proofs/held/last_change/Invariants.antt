-- The last one so far, and what the rest gives.
use Rattle.std.proofs.Common.{◌≡◌, drop}
use Rattle.dk_si.specs.Answer.{last_change}
use Rattle.dk_plain_engine.specs.Held.{or_last}
use Rattle.dk_plain_engine.proofs.held.last_change.Given as goal

abbrev pub invariant-commits : goal.invariant-commits
invariant-commits l =
    or_last l.last l.place (last_change l.at.table l.at.row (drop l.place l.commits)) ≡ last_change l.at.table l.at.row l.commits
