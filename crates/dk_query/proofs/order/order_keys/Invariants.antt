-- The keys so far.
use Rattle.std.proofs.Common.{◌≡◌, take}
use Rattle.dk_query.specs.Order.{order_keys}
use Rattle.dk_query.proofs.order.order_keys.Given as goal

abbrev pub invariant-keys : goal.invariant-keys
invariant-keys l = l.found.items ≡ order_keys (take l.key-index l.keys)
