use Rattle.std.proofs.Common.{refl, ◌∙◌, inl, inr}
use Rattle.dk_turns.proofs.CounterLemmas.{stays_more, ready_pair}
use Rattle.dk_turns.proofs.ticket_tests.sales.Goals as goal

pub sell-a-requires-clause-pass : goal.sell-a-requires-clause-pass
sell-a-requires-clause-pass g c = c.requires.ready.idle c.args.one.now (inr (inl refl))

pub sell-b-requires-clause-pass : goal.sell-b-requires-clause-pass
sell-b-requires-clause-pass g c =
    let a = c.sell-a.ensures.idle in
    (a.turns ∙ (c.requires.ready.idle c.args.one.now (inr (inl refl))).0, a.held)

pub sell-c-requires-clause-pass : goal.sell-c-requires-clause-pass
sell-c-requires-clause-pass g c =
    let b = c.sell-b.ensures.idle in
    (b.turns ∙ c.sell-a.ensures.idle.turns ∙ (c.requires.ready.idle c.args.one.now (inr (inl refl))).0, b.held)

pub sell-d-requires-clause-pass : goal.sell-d-requires-clause-pass
sell-d-requires-clause-pass g c = c.requires.ready.idle c.args.other.now (inl refl)

pub sell-e-requires-clause-pass : goal.sell-e-requires-clause-pass
sell-e-requires-clause-pass g c =
    let s = c.sell-c.ensures.idle in (
      s.turns ∙ c.sell-b.ensures.idle.turns ∙ c.sell-a.ensures.idle.turns
          ∙ (c.requires.ready.idle c.args.one.now (inr (inl refl))).0,
      s.held,
    )

pub returns : goal.returns
returns g c =
    let two = stays_more c.args.one.now c.sell-a.new.pass c.sell-b.new.pass c.sell-a.ensures.idle
    c.sell-b.ensures.idle in
    let three = stays_more c.args.one.now c.sell-b.new.pass c.sell-c.new.pass two c.sell-c.ensures.idle in
    let four = stays_more c.args.one.now c.sell-c.new.pass c.sell-e.new.pass three c.sell-e.ensures.idle in
    ready_pair c.args.turns.now.id c.args.one.now c.args.other.now c.sell-e.new.pass c.sell-d.new.pass four
    c.sell-d.ensures.idle c.requires.ready
