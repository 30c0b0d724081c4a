-- Binding has no other refusals.
use Rattle.dk_bind.proofs.laws.statements_are_refused_by_binding.Goals as goal
use Rattle.dk_bind.proofs.RefusalLemmas.{statements_are_refused_by_binding}

pub returns : goal.returns
returns c = statements_are_refused_by_binding
