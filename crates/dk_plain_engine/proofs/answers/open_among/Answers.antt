-- The sessions that are counted are those that pass.
use Rattle.std.proofs.Common.{rules, tests}
use Rattle.std.proofs.lemmas.Iterator.{YieldsList-from_slice}
use Rattle.std.proofs.lemmas.Iterator.Consumers.{YieldsList-from_filter, count_from_yields_List}
use Rattle.dk_si.specs.OneThread.{is_open}
use Rattle.dk_plain_engine.proofs.answers.open_among.Goals as goal

pub returns : goal.returns
returns c =
    count_from_yields_List _ _ c.count.ensures.ran
    (YieldsList-from_filter _ is_open (YieldsList-from_slice c.args.sessions.now cc) c.filter.ensures.closure
    (λ x r q k. search (rules, tests)))
