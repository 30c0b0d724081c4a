use Rattle.std.proofs.Common.{◌≡◌, length, subst, sym, ap, arith}
use Rattle.dk_turns.specs.IdlePasses.{CanClose}
use Rattle.dk_turns.specs.PassViews.{AllIdle, IsWhole}
use Rattle.dk_turns.proofs.CounterLemmas.{ready_again, whole_again}
use Rattle.dk_turns.proofs.tests.run.Goals as goal

pub spread-requires : goal.spread-requires
spread-requires g c = (
  c.type_bounds.sync-R,
  subst (AllIdle c.args.turns.id) (sym c.as_mut_slice.ensures.value)
      c.requires.idle,
)

pub close-requires-clause-idle : goal.close-requires-clause-idle
close-requires-clause-idle g c =
    let ready = ready_again c.args.turns.id c.as_mut_slice.result.now c.spread.new.passes c.spread.auto.passes
    c.spread.ensures (subst (CanClose c.args.turns.id) (sym c.as_mut_slice.ensures.value) c.requires) in
    let long : c.args.passes.len ≡ length c.spread.new.passes = omega
    (arith, c.spread.auto.passes, ap length c.as_mut_slice.ensures.value, c.args.passes.ok.0) in
    subst (AllIdle c.args.turns.id) (sym (whole_again c.args.passes.len c.spread.new.passes _ long)) ready.idle

pub close-requires-clause-whole : goal.close-requires-clause-whole
close-requires-clause-whole g c =
    let ready = ready_again c.args.turns.id c.as_mut_slice.result.now c.spread.new.passes c.spread.auto.passes
    c.spread.ensures (subst (CanClose c.args.turns.id) (sym c.as_mut_slice.ensures.value) c.requires) in
    let long : c.args.passes.len ≡ length c.spread.new.passes = omega
    (arith, c.spread.auto.passes, ap length c.as_mut_slice.ensures.value, c.args.passes.ok.0) in
    subst IsWhole (sym (whole_again c.args.passes.len c.spread.new.passes _ long)) ready.whole
