use Rattle.std.proofs.Common.{◌+◌, Some, None, refl, ◌∙◌, arith}
use Rattle.dk_turns.specs.KnowledgeAfter.{after_release}
use Rattle.dk_turns.proofs.MidStepLemmas.{taken_out, exchanged, sent_home, out_first, out_value, holds_in, puts_in}
use Rattle.dk_turns.proofs.StepLemmas.{fetches, gives_back}
use Rattle.dk_turns.proofs.acquire.put_back.Goals as goal

pub load-requires : goal.load-requires
load-requires g c =
    let q = c.requires in (
      q.seat.0,
      omega (arith, q.board.0, q.turn.0),
      fetches _ _ (g.S.Shared.holds _) g.S.Shared.lasts _
          c.args.seat.now.id c.args.seat.now.me c.args.turn q.turn.1.0 q.turn.0 q.seat.1.1 q.seat.1.2 q.turn.1.1,
    )

pub exchange-requires : goal.exchange-requires
exchange-requires g c =
    let out = taken_out c.args.seat.now.me c.load.new.seat.me c.args.turn None _ c.requires.seat.1
    (c.load.ensures.2 c.args.turn (refl {a = c.args.turn + 1})) in
    (c.load.ensures.0 ∙ c.requires.seat.0, (None, out_first _ _ _ _ out))

pub unreachable-requires : goal.unreachable-requires
unreachable-requires g c =
    let out = taken_out c.args.seat.now.me c.load.new.seat.me c.args.turn None _ c.requires.seat.1
    (c.load.ensures.2 c.args.turn (refl {a = c.args.turn + 1})) in
    let value = out_value c.load.new.seat.me c.args.turn None c.exchange.result _ out c.exchange.ensures.2 in
    let is = c.in-Some.is in cc

pub store-requires : goal.store-requires
store-requires g c =
    let full = exchanged c.args.seat.now.me c.load.new.seat.me c.exchange.new.seat.me c.args.turn None
    (Some c.args.part) _ c.requires.seat.1 (c.load.ensures.2 c.args.turn (refl {a = c.args.turn + 1}))
    c.exchange.ensures.3 in (
      c.exchange.ensures.0 ∙ c.load.ensures.0 ∙ c.requires.seat.0,
      omega (arith, c.requires.board.0, c.requires.turn.0),
      gives_back _ _ (g.S.Shared.holds _) g.S.Shared.lasts _ c.exchange.new.seat.id c.exchange.new.seat.me c.args.turn
          c.requires.turn.1.0 c.args.part c.requires.turn.0 full.live full.hand
          (holds_in c.exchange.new.seat.me.0.knowledge c.args.seat.now.me.0.knowledge c.args.turn c.requires.turn.1.0
          full.knowledge c.requires.turn.1.1) (out_first _ _ _ _ full)
          (puts_in _ _ c.exchange.new.seat.me.0.knowledge c.args.seat.now.me.0.knowledge c.args.turn
          c.requires.turn.1.0 c.args.part full.knowledge c.requires.turn.1.2),
    )

pub returns-clause-seat : goal.returns-clause-seat
returns-clause-seat g c = (
  c.store.ensures.0 ∙ c.exchange.ensures.0 ∙ c.load.ensures.0,
  (sent_home c.args.seat.now.me c.load.new.seat.me c.exchange.new.seat.me c.store.new.seat.me c.args.turn None
      (Some c.args.part) c.args.seat.now.me.0.knowledge (after_release c.args.turn c.args.part) c.requires.seat.1
      (c.load.ensures.2 c.args.turn (refl {a = c.args.turn + 1})) c.exchange.ensures.3
      (c.store.ensures.2 c.args.turn c.args.part (refl {a = c.args.turn + 1}))).0,
)

pub returns-clause-knowledge : goal.returns-clause-knowledge
returns-clause-knowledge g c =
    (sent_home c.args.seat.now.me c.load.new.seat.me c.exchange.new.seat.me c.store.new.seat.me c.args.turn None
    (Some c.args.part) c.args.seat.now.me.0.knowledge (after_release c.args.turn c.args.part) c.requires.seat.1
    (c.load.ensures.2 c.args.turn (refl {a = c.args.turn + 1})) c.exchange.ensures.3
    (c.store.ensures.2 c.args.turn c.args.part (refl {a = c.args.turn + 1}))).1
