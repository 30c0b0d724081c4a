use Rattle.std.proofs.Common.{rules, ◌∙◌}
use Rattle.dk_turns.proofs.LifecycleLemmas.{starts}
use Rattle.dk_turns.proofs.SpareLemmas.{map_some_injective}
use Rattle.dk_turns.proofs.turns.Turns.new.Goals as goal

pub new-requires : goal.new-requires
new-requires g c = rw c.fill_slots.ensures.slots
    (starts _ _ (g.S.Shared.holds _) g.S.Shared.lasts c.args.parts.items (search rules) c.requires.fact)

pub returns-in-Err-clause-err : goal.returns-in-Err-clause-err
returns-in-Err-clause-err g c = map_some_injective _ _ (c.empty_slots.ensures.parts
    ∙ (c.in-Err.ensures.err ∙ c.fill_slots.ensures.slots))
