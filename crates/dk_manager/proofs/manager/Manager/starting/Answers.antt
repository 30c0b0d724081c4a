-- The first state is lawful.
use Rattle.dk_manager.proofs.LawfulLemmas.{lawful_first}
use Rattle.dk_manager.proofs.manager.Manager.starting.Goals as goal

pub invariant_of-result : goal.invariant_of-result
invariant_of-result c =
    lawful_first c.args.last c.args.transactions c.args.rows c.requires.last c.requires.transactions
