-- The later states decide.
use Rattle.std.proofs.Common.{◌≡◌, ◌+◌, ◌-◌}
use Rattle.dk_si.specs.MayAnswer.{is_refused_from}
use Rattle.dk_legal.proofs.answers.is_refused_behind.Given as goal

abbrev pub invariant-loop-step : goal.invariant-loop-step
invariant-loop-step l =
    is_refused_from l.log.opened.now l.log.commits.now l.refused.statement.now l.refused.refusal.now (l.start +
    l.step) (l.more - l.step)
    ≡ is_refused_from l.log.opened.now l.log.commits.now l.refused.statement.now l.refused.refusal.now l.start l.more
