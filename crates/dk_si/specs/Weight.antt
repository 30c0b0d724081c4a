-- How long the log's record of a net is.
use Rattle.std.specs.Prelude.{ℕ, ◌-◌, ◌^◌, min, ◌+◌, length, List, map, sum, ◌/◌, ◌*◌, drop}
use Rattle.dk_values.specs.declared.value.Value.{Value}
use Rattle.dk_values.specs.declared.value.Value.TheVariants.{Null, Bool, Int, Big, Text, Huge}
use Rattle.dk_types.specs.declared.net.TableNet.{TableNet}
use Rattle.dk_si.specs.declared.limits.TheConstants.{GROUP_ROWS}

-- the greatest number of 64 bits stands for all above
abbrev pub cap : ℕ → ℕ
cap n = min (2 ^ 64 - 1) n

-- a byte tells whether a value is there, and a text has its length in two bytes
abbrev pub cell_len : Value → ℕ
cell_len Null = 1
cell_len (Bool truth) = 2
cell_len (Int n) = 5
cell_len (Big n) = 9
cell_len (Text bytes) = 3 + length bytes
cell_len (Huge n) = 17

abbrev pub row_len : List Value → ℕ
row_len row = sum (map cell_len row)

abbrev pub rows_len : List (List Value) → ℕ
rows_len rows = sum (map row_len rows)

-- each update has its row's id of eight bytes
abbrev pub updates_len : List (ℕ × List Value) → ℕ
updates_len updates = sum (map (λ update. 8 + row_len update.1) updates)

-- new rows that fill whole groups are named by the groups' roots of eight bytes; the others are the tail
abbrev pub group_count : TableNet → ℕ
group_count part = length part.rows / GROUP_ROWS

abbrev pub tail_rows : TableNet → List (List Value)
tail_rows part = drop (group_count part * GROUP_ROWS) part.rows

-- the table's number and four counts have four bytes each
abbrev pub part_len : TableNet → ℕ
part_len part = 20 + (updates_len part.updates + (8 * length part.deletes + (8 * group_count part + rows_len (tail_rows part))))

-- a tag, and the number of tables in two bytes
abbrev pub payload_len : List TableNet → ℕ
payload_len net = 3 + sum (map part_len net)

abbrev pub weight : List TableNet → ℕ
weight net = cap (payload_len net)
