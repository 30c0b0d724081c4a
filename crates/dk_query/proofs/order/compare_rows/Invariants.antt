-- The keys so far tell the rows not apart.
use Rattle.std.proofs.Common.{◌≡◌, drop}
use Rattle.dk_query.specs.Order.{keys_cmp}
use Rattle.dk_query.proofs.order.compare_rows.Given as goal

abbrev pub invariant-keys : goal.invariant-keys
invariant-keys l = keys_cmp (drop l.key-index l.keys) l.left l.right ≡ keys_cmp l.keys l.left l.right
