use Rattle.std.proofs.Common.{rules, arith}
use Rattle.dk_turns.proofs.StepLemmas.{looks}
use Rattle.dk_turns.proofs.turns.Turns.look.Goals as goal

pub load-requires : goal.load-requires
load-requires g c = (
  search rules,
  omega (arith, c.self.invariant.0),
  looks _ _ (g.S.Shared.holds _) g.S.Shared.lasts
      _ c.pass.inside.seat.id c.pass.inside.seat.me c.pass.invariant.1,
)
