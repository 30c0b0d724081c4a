-- None of the sessions so far has the row.
use Rattle.std.proofs.Common.{◌≡◌, drop}
use Rattle.dk_si.specs.Answer.{first_with}
use Rattle.dk_plain_engine.proofs.held.first_with.Given as goal

abbrev pub invariant-sessions : goal.invariant-sessions
invariant-sessions l =
    first_with l.at.table l.at.row (drop l.session-index l.sessions) ≡ first_with l.at.table l.at.row l.sessions
