-- The order of ORDER BY and of groups.
use Rattle.std.specs.Prelude.{ℕ, ℤ, pos, Bool, false, List, [], ◌∷◌, map, if◌then◌else◌}
use Rattle.std.specs.declared.cmp.Ordering.{Ordering}
use Rattle.std.specs.declared.cmp.Ordering.TheVariants.{Equal}
use Rattle.std.specs.Ordering.{nat_cmp, int_cmp, bool_cmp, is_lt, on, flip_args, then_cmp}
use Rattle.std.specs.Cmp.Lexicographic.{slice_cmp}
use Rattle.dk_values.specs.declared.value.Value.{Value}
use Rattle.dk_values.specs.declared.value.Value.TheVariants as value
use Rattle.dk_types.specs.declared.bound.BoundKey.{BoundKey}
use Rattle.dk_query.specs.declared.order.SortKey.{SortKey}
use Rattle.dk_eval.specs.Values.{value_at}
use Rattle.dk_query.specs.declared.lines.Line.{Line}

-- null, then truths, then numbers, then texts; the values of one column are of one of these kinds, or null
abbrev pub rank : Value → ℕ
rank value.Null = 0
rank (value.Bool truth) = 1
rank (value.Text bytes) = 3
rank number = 2

abbrev pub truth_in : Value → Bool
truth_in (value.Bool truth) = truth
truth_in other = false

abbrev pub number_in : Value → ℤ
number_in (value.Int n) = n
number_in (value.Big n) = n
number_in (value.Huge n) = n
number_in other = pos 0

abbrev pub text_in : Value → List ℕ
text_in (value.Text bytes) = bytes
text_in other = []

-- null is the lowest, false is below true, numbers by value, texts by bytes
abbrev pub value_cmp : Value → Value → Ordering
value_cmp = then_cmp (on rank nat_cmp) (then_cmp (on truth_in bool_cmp) (then_cmp (on number_in int_cmp) (on text_in (slice_cmp nat_cmp))))

abbrev pub column_cmp : ℕ → List Value → List Value → Ordering
column_cmp column = on (λ row. value_at row column) value_cmp

-- DESC is the reverse
abbrev pub key_cmp : SortKey → List Value → List Value → Ordering
key_cmp key = if key.descending then flip_args (column_cmp key.column) else column_cmp key.column

-- the first key that tells two rows apart
abbrev pub keys_cmp : List SortKey → List Value → List Value → Ordering
keys_cmp [] = λ left right. Equal
keys_cmp (key ∷ keys) = then_cmp (key_cmp key) (keys_cmp keys)

-- a line goes before another by the keys of their rows
abbrev pub goes_before : List SortKey → Line → Line → Bool
goes_before keys left right = is_lt (keys_cmp keys left.row right.row)

-- the keys of ORDER BY
abbrev pub order_keys : List BoundKey → List SortKey
order_keys keys = map (λ key. record { column = key.column; descending = key.descending }) keys

-- the columns of GROUP BY, in ascending order
abbrev pub group_keys : List ℕ → List SortKey
group_keys columns = map (λ column. record { column = column; descending = false }) columns
