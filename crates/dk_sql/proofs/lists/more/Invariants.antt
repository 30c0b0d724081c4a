-- The members so far and those that the rest goes on with are all members.
use Rattle.std.proofs.Common.{◌≡◌, ◌≤◌, length}
use Rattle.dk_sql.specs.Readers.{with_front}
use Rattle.dk_sql.specs.Lists.{more_at}
use Rattle.dk_sql.proofs.lists.more.Given as goal

abbrev pub invariant-members : goal.invariant-members
invariant-members g l = record {
  reads : with_front l.members (more_at (g.M.Member.found l.fn.scope.whole) l.left l.rest)
      ≡ with_front l.fn.members (more_at (g.M.Member.found l.fn.scope.whole) l.further l.fn.text);
  within : length l.rest ≤ length l.fn.text;
}

abbrev pub decreases-members : goal.decreases-members
decreases-members g l = l.left
