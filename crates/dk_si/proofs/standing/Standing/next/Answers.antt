-- Behind whatever list it stands.
use Rattle.std.proofs.lemmas.Result.{on_ok_weaker}
use Rattle.dk_si.proofs.ShortLemmas.{steps_on}
use Rattle.dk_si.proofs.standing.Standing.next.Goals as goal

pub returns-clause-list : goal.returns-clause-list
returns-clause-list c =
    on_ok_weaker c.take_entry.result (steps_on c.args.opened c.args.entry.now c.args.self.now c.take_entry.new.self)
    c.take_entry.ensures.ok
