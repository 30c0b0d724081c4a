-- Another member was read, or no comma stands in front.
use Rattle.std.proofs.Common.{sym, arith}
use Rattle.dk_sql.proofs.ListLemmas.{more_turn, more_end}
use Rattle.dk_sql.proofs.lists.more.Goals as goal

pub members-preserved : goal.members-preserved
members-preserved g c = record {
  reads = rw c.in_ok-push.ensures.ok
      (more_turn (g.M.Member.found c.args.scope.whole) c.members.members c.members.rest.now c.in-Some.after.now
      c.in_ok-member.next.now c.in_ok-member.member _ c.members.left
      (sym c.in-Some.ensures.exact) c.in_ok-member.ensures.exact (omega arith) c.members.invariant.reads);
  within = omega (arith, c.in-Some.ensures.within, c.in_ok-member.ensures.within, c.members.invariant.within);
}

pub returns-clause-exact : goal.returns-clause-exact
returns-clause-exact g c =
    more_end (g.M.Member.found c.args.scope.whole) c.members.members c.members.rest.now _ c.members.left
    (sym c.in_default.ensures.exact) c.members.invariant.reads
