-- The seats that are counted are those that pass.
use Rattle.std.proofs.Common.{rules, tests}
use Rattle.std.proofs.lemmas.Iterator.{YieldsList-from_slice}
use Rattle.std.proofs.lemmas.Iterator.Consumers.{YieldsList-from_filter, count_from_yields_List}
use Rattle.dk_core.specs.Findings.{has_live}
use Rattle.dk_slow_seats.proofs.room.live_count.Goals as goal

pub returns : goal.returns
returns c =
    count_from_yields_List _ _ c.count.ensures.ran
    (YieldsList-from_filter _ has_live (YieldsList-from_slice c.args.seats.now cc) c.filter.ensures.closure
    (λ x r q k. search (rules, tests)))
