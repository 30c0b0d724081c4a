-- The text ends where it ends from the open piece on.
use Rattle.std.proofs.Common.{◌≤◌, length}
use Rattle.dk_sql.specs.Tokens.{behind_text}
use Rattle.dk_sql.proofs.TextLemmas.{Ends}
use Rattle.dk_sql.proofs.tokens.behind_text.Given as goal

abbrev pub invariant-pieces : goal.invariant-pieces
invariant-pieces l = record {
  told : Ends l.closed l.inside (behind_text l.bytes);
  closed : length l.closed ≤ length l.bytes;
  inside : length l.inside ≤ length l.bytes;
}

abbrev pub decreases-pieces : goal.decreases-pieces
decreases-pieces l = length l.inside
