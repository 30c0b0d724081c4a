use Rattle.std.proofs.Common.{◌∙◌, arith}
use Rattle.dk_turns.proofs.MidStepLemmas.{kept_still, making_turn}
use Rattle.dk_turns.proofs.EventArgsLemmas.{ticks_as}
use Rattle.dk_turns.proofs.clock.tick.Goals as goal

pub fetch_add-requires : goal.fetch_add-requires
fetch_add-requires g c =
    let q = c.requires in (
      q.seat.0,
      omega (arith, q.board.0),
      ticks_as _ _ (g.S.Shared.holds _) g.S.Shared.lasts _ c.args.seat.now.id
          c.args.seat.now.me c.args.turn q.step.1.0 c.args.note.now c.args.part.now _ _ _ q.says.0 q.says.1 q.says.2
          q.step.0 q.seat.1.1 q.step.1.1 q.step.1.2,
    )

pub returns-clause-seat : goal.returns-clause-seat
returns-clause-seat g c =
    let q = c.requires in
    let t = c.fetch_add.ensures in
    let told = t.2 c.args.part.now c.args.note.now q.says.1 q.says.2 in
    (t.0, (kept_still c.args.seat.now.me c.fetch_add.new.seat.me _ q.seat.1 told.2).0)

pub returns-clause-knowledge : goal.returns-clause-knowledge
returns-clause-knowledge g c =
    let q = c.requires in
    let t = c.fetch_add.ensures in
    let told = t.2 c.args.part.now c.args.note.now q.says.1 q.says.2 in
    let knowledge = (kept_still c.args.seat.now.me c.fetch_add.new.seat.me _ q.seat.1 told.2).1 in (
      told.0,
      told.1,
      knowledge ∙ making_turn _ _ c.args.part.now c.args.note.now told.0 c.args.seat.now.me.0.knowledge
          q.says.0,
    )
