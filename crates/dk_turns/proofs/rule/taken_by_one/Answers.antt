use Rattle.dk_turns.proofs.TakenByOneLemmas.{taken_by_one}
use Rattle.dk_turns.proofs.rule.taken_by_one.Goals as goal

pub returns : goal.returns
returns g c = λ key. taken_by_one _ _ (g.S.Shared.holds key) g.S.Shared.lasts
