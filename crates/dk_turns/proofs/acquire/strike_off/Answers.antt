use Rattle.std.proofs.Common.{◌<◌, ◌+◌, ◌-◌, ◌^◌, ◌%◌, arith}
use Rattle.dk_turns.specs.declared.layout.TheConstants.{TURNS, WAITERS}
use Rattle.dk_turns.proofs.StepLemmas.{stays}
use Rattle.dk_turns.proofs.acquire.strike_off.Goals as goal

pub fetch_sub-requires : goal.fetch_sub-requires
fetch_sub-requires g c =
    let q = c.requires in
    let far : TURNS < c.args.turn + WAITERS = omega arith in (
      q.seat.0,
      omega (arith, q.board.0),
      stays _ _ (g.S.Shared.holds _) g.S.Shared.lasts _ c.args.seat.now.id
          c.args.seat.now.me (c.args.turn + WAITERS) 1 (λ n. (n + (2 ^ 64 - 1)) % 2 ^ 64) far q.seat.1.1,
    )
