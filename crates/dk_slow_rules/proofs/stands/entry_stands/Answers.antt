-- The place is that of the next entry, and there are fewer entries than the greatest number.
use Rattle.std.proofs.Common.{◌≡◌, length, rules}
use Rattle.dk_slow_rules.proofs.StandLemmas.{place_is}
use Rattle.dk_slow_rules.proofs.stands.entry_stands.Goals as goal

pub stands_on-requires : goal.stands_on-requires
stands_on-requires c =
    let place : c.args.scene.now.standing.now.place ≡ length c.args.scene.now.entries.now =
    place_is _ _ _ c.requires
    in
    search (rules, place)
