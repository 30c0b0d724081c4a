-- The other parts lead to the same tables.
use Rattle.std.proofs.Common.{◌≡◌, drop}
use Rattle.dk_si.specs.Database.{apply_net}
use Rattle.dk_plain.proofs.database.apply_net.Given as goal

abbrev pub invariant-loop-part : goal.invariant-loop-part
invariant-loop-part l = apply_net (drop l.part-index l.net) l.tables.items ≡ apply_net l.net l.fn.tables.items
