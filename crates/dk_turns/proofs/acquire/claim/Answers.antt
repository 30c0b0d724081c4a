use Rattle.std.proofs.Common.{◌+◌, Some, None, refl, ◌∙◌, arith}
use Rattle.dk_turns.specs.KnowledgeAfter.{after_take}
use Rattle.dk_turns.proofs.MidStepLemmas.{taken_out, exchanged, sent_home, missed, out_first, out_value, holds_in, holds_taking, taking_value, lasting_value}
use Rattle.dk_turns.proofs.TurnListLemmas.{same_value}
use Rattle.dk_turns.proofs.StepLemmas.{tries, settles}
use Rattle.dk_turns.proofs.acquire.claim.Goals as goal

pub compare_exchange-requires : goal.compare_exchange-requires
compare_exchange-requires g c =
    let q = c.requires in (
      q.seat.0,
      omega (arith, q.board.0),
      tries _ _ (g.S.Shared.holds _) g.S.Shared.lasts _ c.args.seat.now.id
          c.args.seat.now.me c.args.turn q.turn q.seat.1.1 q.seat.1.2,
    )

pub returns-then-compare_exchange-ne-FREE-clause-seat : goal.returns-then-compare_exchange-ne-FREE-clause-seat
returns-then-compare_exchange-ne-FREE-clause-seat g c =
    let tried = c.compare_exchange.ensures in (
      tried.0,
      (missed c.args.seat.now.me c.compare_exchange.new.seat.me _ c.requires.seat.1
          ((tried.2 c.args.turn (refl {a = c.args.turn + 1})).1 c.if-compare_exchange-ne-FREE.true)).0,
    )

pub exchange-slot-requires : goal.exchange-slot-requires
exchange-slot-requires g c =
    let tried = c.compare_exchange.ensures in
    let hit = (tried.2 c.args.turn (refl {a = c.args.turn + 1})).0 c.if-compare_exchange-ne-FREE.false in
    let out = taken_out c.args.seat.now.me c.compare_exchange.new.seat.me c.args.turn (Some hit.0) _ c.requires.seat.1
    hit.1 in
    (tried.0 ∙ c.requires.seat.0, (Some hit.0, out_first _ _ _ _ out))

pub load-requires : goal.load-requires
load-requires g c =
    let tried = c.compare_exchange.ensures in
    let hit = (tried.2 c.args.turn (refl {a = c.args.turn + 1})).0 c.if-compare_exchange-ne-FREE.false in
    let changed = c.exchange-slot.ensures in
    let empty = exchanged c.args.seat.now.me c.compare_exchange.new.seat.me c.exchange-slot.new.seat.me c.args.turn
    (Some hit.0) None _ c.requires.seat.1 hit.1 changed.3 in (
      changed.0 ∙ tried.0 ∙ c.requires.seat.0,
      omega (arith, c.requires.board.0),
      settles _ _ (g.S.Shared.holds _) g.S.Shared.lasts _ c.exchange-slot.new.seat.id c.exchange-slot.new.seat.me
          c.args.turn hit.0 c.requires.turn empty.live empty.hand
          (holds_in c.exchange-slot.new.seat.me.0.knowledge
          (after_take c.args.turn hit.0 c.args.seat.now.me.0.knowledge) c.args.turn hit.0 empty.knowledge
          (holds_taking c.args.seat.now.me.0.knowledge c.args.turn hit.0)) (out_first _ _ _ _ empty),
    )

pub unwrap-requires : goal.unwrap-requires
unwrap-requires g c =
    let hit = (c.compare_exchange.ensures.2 c.args.turn (refl {a = c.args.turn + 1})).0
    c.if-compare_exchange-ne-FREE.false in
    let out = taken_out c.args.seat.now.me c.compare_exchange.new.seat.me c.args.turn (Some hit.0) _
    c.requires.seat.1 hit.1 in
    rw (out_value c.compare_exchange.new.seat.me c.args.turn (Some hit.0) c.exchange-slot.result _ out
    c.exchange-slot.ensures.2) refl

pub returns-clause-seat : goal.returns-clause-seat
returns-clause-seat g c =
    let tried = c.compare_exchange.ensures in
    let hit = (tried.2 c.args.turn (refl {a = c.args.turn + 1})).0 c.if-compare_exchange-ne-FREE.false in
    let home = sent_home c.args.seat.now.me c.compare_exchange.new.seat.me c.exchange-slot.new.seat.me
    c.load.new.seat.me c.args.turn (Some hit.0) None (after_take c.args.turn hit.0 c.args.seat.now.me.0.knowledge)
    (λ v. v) c.requires.seat.1 hit.1 c.exchange-slot.ensures.3 (λ first. c.load.ensures.2) in
    (c.load.ensures.0 ∙ c.exchange-slot.ensures.0 ∙ tried.0, home.0)

pub returns-clause-knowledge : goal.returns-clause-knowledge
returns-clause-knowledge g c =
    let hit = (c.compare_exchange.ensures.2 c.args.turn (refl {a = c.args.turn + 1})).0
    c.if-compare_exchange-ne-FREE.false in
    let out = taken_out c.args.seat.now.me c.compare_exchange.new.seat.me c.args.turn (Some hit.0) _
    c.requires.seat.1 hit.1 in
    let home = sent_home c.args.seat.now.me c.compare_exchange.new.seat.me c.exchange-slot.new.seat.me
    c.load.new.seat.me c.args.turn (Some hit.0) None (after_take c.args.turn hit.0 c.args.seat.now.me.0.knowledge)
    (λ v. v) c.requires.seat.1 hit.1 c.exchange-slot.ensures.3 (λ first. c.load.ensures.2) in
    let value = out_value c.compare_exchange.new.seat.me c.args.turn (Some hit.0) c.exchange-slot.result _ out
    c.exchange-slot.ensures.2 in
    let same = same_value c.exchange-slot.result hit.0 c.unwrap.result value c.unwrap.ensures in (
      home.1 ∙ taking_value c.args.turn hit.0 c.unwrap.result c.args.seat.now.me.0.knowledge same,
      lasting_value g.S.Shared.lasts c.args.turn hit.0 c.unwrap.result c.args.seat.now.me.0.knowledge same hit.2,
    )
