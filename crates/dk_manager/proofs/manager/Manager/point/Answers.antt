-- With the commit's number the state stays lawful, and the bound doesn't fall.
use Rattle.std.proofs.Common.{◌≡◌, ◌≤◌, ◌+◌, ◌-◌, None, get_or, set, true, refl, sym, subst, arith}
use Rattle.dk_manager.specs.State.{ManagerState, bound, is_open, seat_of, with_commit}
use Rattle.dk_manager.proofs.BoundLemmas.{bound_pointed}
use Rattle.dk_manager.proofs.LawfulLemmas.{lawful_pointed}
use Rattle.dk_manager.proofs.manager.Manager.point.Goals as goal

pub invariant_of-self : goal.invariant_of-self
invariant_of-self c =
    let i = c.self.inside in
    let k = c.args.session - 1 in
    let state : ManagerState = record { last = i.last; transactions = i.transactions; rows = i.rows; live = i.live } in
    let unnumbered : is_open (seat_of state c.args.session) ≡ true =
    subst (λ s. is_open (seat_of s c.args.session) ≡ true) (sym c.self.view_is) c.requires.open in
    rw c.with_commit.ensures
    (lawful_pointed state k c.args.rows (get_or i.live k None) c.self.invariant (omega arith) refl unnumbered c.requires.rows)

pub returns-clause-bound : goal.returns-clause-bound
returns-clause-bound c =
    let i = c.self.inside in
    let k = c.args.session - 1 in
    rw c.with_commit.ensures
    (subst (λ s. bound s ≤ bound (record {
      last = i.last + 1;
      transactions = i.transactions;
      rows = i.rows + c.args.rows;
      live = set i.live k (with_commit (i.last + 1) (get_or i.live k None));
    })) c.self.view_is (bound_pointed i.last (i.last + 1) (i.last + 1) k i.live (omega arith)))
