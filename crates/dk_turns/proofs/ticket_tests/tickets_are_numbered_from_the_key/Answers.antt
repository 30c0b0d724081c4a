use Rattle.std.proofs.Common.{subst, sym}
use Rattle.dk_turns.specs.PassViews.{AllIdle, IsWhole}
use Rattle.dk_turns.proofs.ticket_tests.tickets_are_numbered_from_the_key.Goals as goal

pub close-parts-requires-clause-idle : goal.close-parts-requires-clause-idle
close-parts-requires-clause-idle g c = subst (AllIdle c.in-Some.turns.id) (sym c.in-Some-both.ensures)
    c.sales-shown.ensures.idle

pub close-parts-requires-clause-whole : goal.close-parts-requires-clause-whole
close-parts-requires-clause-whole g c = subst IsWhole (sym c.in-Some-both.ensures) c.sales-shown.ensures.whole
