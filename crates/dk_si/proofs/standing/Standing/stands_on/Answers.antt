-- Behind whatever list it stands.
use Rattle.std.proofs.lemmas.Result.{IfOk-weaker}
use Rattle.dk_si.proofs.ShortLemmas.{decides_behind}
use Rattle.dk_si.proofs.standing.Standing.stands_on.Goals as goal

pub returns-clause-list : goal.returns-clause-list
returns-clause-list c =
    IfOk-weaker c.entry_stands.result _ _
    (λ stands is. decides_behind c.args.opened c.args.entry.now c.args.self.now stands is) c.entry_stands.ensures
