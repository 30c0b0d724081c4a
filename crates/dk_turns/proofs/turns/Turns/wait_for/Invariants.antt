use Rattle.std.proofs.Common.{◌≡◌}
use Rattle.dk_turns.proofs.WaitLemmas.{Refused}
use Rattle.dk_turns.proofs.turns.Turns.wait_for.Given as goal

abbrev pub invariant-loop : goal.invariant-loop
invariant-loop g l = record {
  can : (goal.iterator-loop g).can_next l.iterator';
  ends : (goal.iterator-loop g).is_finite l.iterator';
  turns : l.pass.turns ≡ l.fn.pass.turns;
  waited : Refused l.fn.pass.knowledge l.pass.knowledge;
}
