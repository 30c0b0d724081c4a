-- The keys of the columns so far.
use Rattle.std.proofs.Common.{◌≡◌, take}
use Rattle.dk_query.specs.Order.{group_keys}
use Rattle.dk_query.proofs.order.group_keys.Given as goal

abbrev pub invariant-columns : goal.invariant-columns
invariant-columns l = l.keys.items ≡ group_keys (take l.column-index l.columns)
