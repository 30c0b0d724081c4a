use Rattle.std.proofs.Common.{rules, arith}
use Rattle.dk_turns.proofs.LifecycleLemmas.{splits}
use Rattle.dk_turns.proofs.turns.Turns.split.Goals as goal

pub split_seat-seat-requires : goal.split_seat-seat-requires
split_seat-seat-requires g c = (
  search rules,
  omega (arith, c.self.invariant.0),
  splits _ _ (g.S.Shared.holds _)
      g.S.Shared.lasts c.pass.inside.seat.id c.pass.inside.seat.me.0 c.pass.invariant.1 (search rules),
)
