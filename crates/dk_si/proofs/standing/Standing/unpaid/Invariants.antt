-- What is kept so far, and what is kept of the rest.
use Rattle.std.proofs.Common.{◌≡◌, ◌++◌, drop}
use Rattle.std.specs.Prelude.{not}
use Rattle.std.specs.List.{filter, list_any}
use Rattle.dk_si.specs.ShortStanding.{unpaid}
use Rattle.dk_si.specs.Standing.{pays}
use Rattle.dk_si.proofs.standing.Standing.unpaid.Given as goal

abbrev pub invariant-loop-need : goal.invariant-loop-need
invariant-loop-need l =
    l.needs ++ filter (λ need. not (list_any (pays l.told.session l.told.reply.now need) l.self.flights))
    (drop l.need-index l.need-items)
    ≡ unpaid l.self l.told.session l.told.reply.now
