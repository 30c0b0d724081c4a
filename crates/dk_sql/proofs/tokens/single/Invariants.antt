-- What is kept so far, with what the rest of the bytes leave, is what all of them leave.
use Rattle.std.proofs.Common.{◌≡◌, ◌++◌, drop, false}
use Rattle.dk_sql.specs.Tokens.{single}
use Rattle.dk_sql.proofs.tokens.single.Given as goal

abbrev pub invariant-bytes : goal.invariant-bytes
invariant-bytes l = l.kept.items ++ single l.first (drop l.byte-index l.bytes) ≡ single false l.bytes
