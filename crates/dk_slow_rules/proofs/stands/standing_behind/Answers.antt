-- What is kept steps from the copy as from what it was copied from.
use Rattle.std.proofs.Common.{subst}
use Rattle.dk_si.specs.ShortStanding.{StepsOn}
use Rattle.dk_slow_rules.proofs.StandLemmas.{stand_well_behind}
use Rattle.dk_slow_rules.proofs.stands.standing_behind.Goals as goal

pub returns : goal.returns
returns c =
    stand_well_behind c.args.scene.now.iteration c.args.scene.now.entries.now c.args.entry.now
    c.args.scene.now.standing.now c.next.new.self c.requires.stand c.requires.stands
    (subst (λ standing. StepsOn c.args.scene.now.iteration c.args.entry.now standing c.next.new.self)
    c.in_ok-standing.ensures c.in_ok-next.ensures.list)
