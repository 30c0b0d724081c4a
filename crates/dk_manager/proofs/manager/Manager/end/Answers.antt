-- Without the session's snapshot the state stays lawful, and the bound doesn't fall.
use Rattle.std.proofs.Common.{arith, subst, ◌≤◌, ◌-◌}
use Rattle.dk_manager.specs.State.{ManagerState, bound, after_end}
use Rattle.dk_manager.proofs.BoundLemmas.{bound_ended}
use Rattle.dk_manager.proofs.LawfulLemmas.{lawful_ended}
use Rattle.dk_manager.proofs.manager.Manager.end.Goals as goal

pub invariant_of-self : goal.invariant_of-self
invariant_of-self c =
    let i = c.self.inside in
    let state : ManagerState = record { last = i.last; transactions = i.transactions; rows = i.rows; live = i.live } in
    lawful_ended state (c.args.session - 1) c.self.invariant (omega arith)

pub returns-clause-bound : goal.returns-clause-bound
returns-clause-bound c =
    let i = c.self.inside in
    let state : ManagerState = record { last = i.last; transactions = i.transactions; rows = i.rows; live = i.live } in
    subst (λ s. bound s ≤ bound (after_end state c.args.session)) c.self.view_is
    (bound_ended i.last (c.args.session - 1) i.live)
