use Rattle.std.proofs.Common.{◌<◌, arith}
use Rattle.dk_turns.specs.declared.layout.TheConstants.{TURNS}
use Rattle.dk_turns.proofs.TicketLemmas.{may_sell}
use Rattle.dk_turns.proofs.ticket_tests.sell.Goals as goal

pub event-requires-clause-step : goal.event-requires-clause-step
event-requires-clause-step g c =
    let t = c.take-held.ensures in
    let small : 5 < TURNS = omega arith in
    may_sell c.args.turns.now.key c.args.pass.now.knowledge c.take-held.new.pass.knowledge 5 c.take-held.result.part _
    _ small t.knowledge t.turn
    (omega (arith, c.max.ensures, c.part-shown.ensures)) (omega (arith, c.max.ensures, c.requires.sold))
    (omega (arith, c.requires.key, c.requires.sold))
