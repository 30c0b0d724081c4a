use Rattle.std.proofs.Common.{arith}
use Rattle.dk_turns.proofs.EventArgsLemmas.{ticks_free_as}
use Rattle.dk_turns.proofs.clock.tick_free.Goals as goal

pub fetch_add-requires : goal.fetch_add-requires
fetch_add-requires g c =
    let q = c.requires in (
      q.seat.0,
      omega (arith, q.board.0),
      ticks_free_as _ _ (g.S.Shared.holds _) g.S.Shared.lasts _ c.args.seat.now.id
          c.args.seat.now.me c.args.note.now _ q.says q.seat.1.1 q.step,
    )
