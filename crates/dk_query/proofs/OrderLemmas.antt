-- The orders of values and of rows are total.
use Rattle.std.proofs.Common.{Bool, true, false, cond, refl, List, [], ◌∷◌}
use Rattle.std.specs.Cmp.{IsTotalOrder}
use Rattle.std.specs.Ordering.{flip_args}
use Rattle.std.proofs.lemmas.Cmp.{then_total, on_total, nat_cmp_total, int_cmp_total, nat_list_cmp_total, back_total}
use Rattle.std.specs.Cmp.{bool_cmp_total}
use Rattle.dk_query.specs.declared.order.SortKey.{SortKey}
use Rattle.dk_eval.specs.Values.{value_at}
use Rattle.dk_query.specs.Order.{rank, truth_in, number_in, text_in, value_cmp, column_cmp, keys_cmp}

pub value_cmp_total : IsTotalOrder value_cmp
value_cmp_total = then_total (on_total rank nat_cmp_total) (then_total (on_total truth_in bool_cmp_total)
    (then_total (on_total number_in int_cmp_total) (on_total text_in nat_list_cmp_total)))

column_cmp_total : (column : _) → IsTotalOrder (column_cmp column)
column_cmp_total column = on_total (λ row. value_at row column) value_cmp_total

key_cmp_if : (key : SortKey) (b : Bool) → IsTotalOrder (cond b (flip_args (column_cmp key.column)) (column_cmp key.column))
key_cmp_if key true = back_total (column_cmp_total key.column)
key_cmp_if key false = column_cmp_total key.column

pub keys_cmp_total : (keys : List SortKey) → IsTotalOrder (keys_cmp keys)
keys_cmp_total [] = record { antisymm = λ x y. refl; trans = λ x y z p q. p; congr = λ x y z p. refl }
keys_cmp_total (key ∷ keys) = then_total (key_cmp_if key key.descending) (keys_cmp_total keys)
