-- With one snapshot more the state stays lawful, and the bound doesn't fall.
use Rattle.std.proofs.Common.{◌≡◌, ◌≤◌, ◌+◌, ◌-◌, None, false, sym, ◌∙◌, subst, arith}
use Rattle.dk_stamp.specs.declared.snapshot.TheConstants.{FIRST_ID}
use Rattle.dk_manager.specs.State.{ManagerState, bound, is_spent, seat_of, after_begin}
use Rattle.dk_manager.proofs.BoundLemmas.{bound_begun}
use Rattle.dk_manager.proofs.LawfulLemmas.{lawful_begun}
use Rattle.dk_manager.proofs.manager.Manager.begin.Goals as goal

pub invariant_of-self : goal.invariant_of-self
invariant_of-self c =
    let i = c.self.inside in
    let state : ManagerState = record { last = i.last; transactions = i.transactions; rows = i.rows; live = i.live } in
    let unspent : is_spent c.args.self.now ≡ false = sym c.is_spent.ensures ∙ c.if-is_spent.false in
    lawful_begun state (c.args.session - 1) c.self.invariant (omega arith)
    (subst (λ s. seat_of s c.args.session ≡ None) (sym c.self.view_is) c.requires.idle)
    (subst (λ s. is_spent s ≡ false) (sym c.self.view_is) unspent)

pub returns-clause-bound : goal.returns-clause-bound
returns-clause-bound c =
    let i = c.self.inside in
    let state : ManagerState = record { last = i.last; transactions = i.transactions; rows = i.rows; live = i.live } in
    subst (λ s. bound s ≤ bound (after_begin state c.args.session)) c.self.view_is
    (bound_begun i.last (c.args.session - 1) (FIRST_ID + i.transactions) i.live)
