-- The other commits lead to the same tables.
use Rattle.std.proofs.Common.{◌≡◌, drop}
use Rattle.dk_si.specs.Database.{after_all}
use Rattle.dk_plain.proofs.database.after_all.Given as goal

abbrev pub invariant-loop-commit : goal.invariant-loop-commit
invariant-loop-commit l = after_all (drop l.commit-index l.commits) l.tables.items ≡ after_all l.commits l.fn.opened
