use Rattle.std.proofs.Common.{◌<◌, refl, ◌∙◌, inl, inr, arith}
use Rattle.dk_turns.specs.declared.layout.TheConstants.{TURNS}
use Rattle.dk_turns.proofs.CounterLemmas.{may_put_taken, stays_more, stays_back, ready_pair}
use Rattle.dk_turns.proofs.tests.beside.Goals as goal

pub take-held-requires-clause-pass : goal.take-held-requires-clause-pass
take-held-requires-clause-pass g c = (c.requires.idle c.args.first.now (inr (inl refl))).0

pub is_free-five-requires : goal.is_free-five-requires
is_free-five-requires g c =
    let i = c.requires.idle c.args.second.now (inl refl) in
    (i.0, i.1, omega arith)

pub is_free-six-requires : goal.is_free-six-requires
is_free-six-requires g c =
    let i = c.requires.idle c.args.second.now (inl refl) in
    (c.is_free-five.ensures.turns ∙ i.0, c.is_free-five.ensures.held, omega arith)

pub release-requires-clause-pass : goal.release-requires-clause-pass
release-requires-clause-pass g c = c.take-held.ensures.pass ∙ (c.requires.idle c.args.first.now (inr (inl refl))).0

pub release-requires-clause-held : goal.release-requires-clause-held
release-requires-clause-held g c =
    let t = c.take-held.ensures in
    let small : 5 < TURNS = omega arith in
    may_put_taken c.args.first.now.knowledge c.take-held.new.pass.knowledge 5 c.take-held.result small t.knowledge
    t.turn

pub is_free-requires : goal.is_free-requires
is_free-requires g c =
    let i = c.requires.idle c.args.second.now (inl refl) in
    (c.is_free-six.ensures.turns ∙ c.is_free-five.ensures.turns ∙ i.0, c.is_free-six.ensures.held, omega arith)

pub returns : goal.returns
returns g c =
    let i = c.requires.idle c.args.first.now (inr (inl refl)) in
    let t = c.take-held.ensures in
    let r = c.release.ensures in
    let second = stays_more c.args.second.now c.is_free-five.new.pass c.is_free-six.new.pass c.is_free-five.ensures
    c.is_free-six.ensures in
    ready_pair c.args.turns.now.id c.args.first.now c.args.second.now c.release.new.pass c.is_free.new.pass
    (stays_back c.args.first.now c.take-held.new.pass c.release.new.pass 5 c.take-held.result i.1 t.pass t.knowledge
    t.turn r.pass r.knowledge)
    (stays_more c.args.second.now c.is_free-six.new.pass c.is_free.new.pass second c.is_free.ensures) c.requires
