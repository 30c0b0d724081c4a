-- What is bound so far, with what the parts that are left come to, is what all come to.
use Rattle.std.proofs.Common.{◌≡◌, drop}
use Rattle.dk_bind.specs.Lists.{bound_from, with_front}
use Rattle.dk_bind.specs.Queries.{around_of}
use Rattle.dk_bind.proofs.lists.bind_all.Given as goal

abbrev pub invariant-parts : goal.invariant-parts
invariant-parts g l =
    with_front l.bound (bound_from (g.P.Part.meaning (around_of l.scope)) l.place (drop l.place l.parts))
    ≡ bound_from (g.P.Part.meaning (around_of l.scope)) 0 l.parts
