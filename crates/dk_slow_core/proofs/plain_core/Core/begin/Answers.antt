-- Where none can begin, the numbers that are spent are noted.
use Rattle.std.proofs.Common.{Some, ap, ◌∙◌, sym}
use Rattle.dk_types.specs.declared.reply.Refusal.TheVariants as refusal
use Rattle.dk_slow_seats.specs.Seats.{seats_with}
use Rattle.dk_slow_core.proofs.EventLemmas.{full_behind}
use Rattle.dk_slow_core.proofs.plain_core.Core.begin.Goals as goal

pub returns-then-is_full-clause-ok : goal.returns-then-is_full-clause-ok
returns-then-is_full-clause-ok c =
    c.set_found.ensures
    ∙ (ap (λ numbers. seats_with c.args.self.now c.args.session
    (λ seat. record seat { found = Some (refusal.Exhausted numbers) })) c.spent_numbers-numbers.ensures
    ∙ full_behind c.args.self.now c.args.session (sym c.is_full.ensures ∙ c.if-is_full.true))
