-- The payload of a net's record is as long as the machine says.
use Rattle.std.proofs.Common.{◌≡◌, ℕ, ◌+◌, ◌*◌, List, [], ◌∷◌, ◌++◌, length, refl, sym, ap, ◌∙◌, length-append, arith}
use Rattle.std.specs.Prelude.{map, sum}
use Rattle.std.specs.List.{flat_map, AllByRecursion}
use Rattle.dk_values.specs.declared.column.Column.{Column}
use Rattle.dk_values.specs.declared.value.ColType.{ColType}
use Rattle.dk_values.specs.declared.value.ColType.TheVariants as types
use Rattle.dk_values.specs.declared.value.Value.{Value}
use Rattle.dk_values.specs.declared.value.Value.TheVariants as values
use Rattle.dk_types.specs.declared.net.TableNet.{TableNet}
use Rattle.dk_bytes.specs.Reading.{AllFollow}
use Rattle.dk_bytes.specs.RowFields.{IsCell, IsRow, cell_bytes, row_bytes}
use Rattle.dk_si.specs.Weight.{cap, cell_len, row_len, rows_len, updates_len, group_count, tail_rows, part_len, payload_len}
use Rattle.dk_pages.specs.declared.log.LogTable.{LogTable}
use Rattle.dk_pages.specs.declared.log.LogCommit.{LogCommit}
use Rattle.dk_pages.specs.declared.log.LogCommit.TheVariants.{Create, Change}
use Rattle.dk_pages.specs.declared.tree.TableEntry.{TableEntry}
use Rattle.std.specs.Int.{w16, w32, w64, to_le_bytes}
use Rattle.std.proofs.lemmas.List.Sums.{sum-map, sum_by-cons}
use Rattle.dk_wal.specs.declared.limits.TheConstants.{CHANGE_TAG}
use Rattle.dk_fault.specs.Counts.{capped}
use Rattle.dk_wal.specs.Counted.{counted}
use Rattle.dk_wal.specs.Payload.{IsUpdate, IsTailRow, IsTable, IsCommit, id_bytes, update_bytes, table_bytes, payload_bytes}
use Rattle.dk_wal.specs.Weights.{Records, AreRecorded, IsCommitOf, HasWeight}
use Rattle.dk_wal.proofs.LengthLemmas.{ids_total}
use Rattle.dk_wal.proofs.WritableLemmas.{all_of}

sum_next : {T : Type 0} (f : T → ℕ) (x : T) (xs : List T) → sum (map f (x ∷ xs)) ≡ f x + sum (map f xs)
sum_next f x xs =
    sum-map f (x ∷ xs) ∙ sum_by-cons f x xs ∙ ap (λ (n : ℕ). f x + n) (sym (sum-map f xs))

cell_weight : (kind : ColType) (value : Value) → IsCell kind value → length (cell_bytes value) ≡ cell_len value
cell_weight kind values.Null h = refl
cell_weight kind (values.Bool truth) h = refl
cell_weight kind (values.Int number) h = refl
cell_weight kind (values.Big number) h = refl
cell_weight kind (values.Text text) h = length-append (1 ∷ to_le_bytes w16 (length text)) text
cell_weight types.Bool (values.Huge number) h = absurd h
cell_weight types.Int (values.Huge number) h = absurd h
cell_weight types.Big (values.Huge number) h = absurd h
cell_weight types.Text (values.Huge number) h = absurd h

row_weight : (columns : List Column) (row : List Value) → IsRow columns row → length (row_bytes row) ≡ row_len row
row_weight [] [] h = refl
row_weight [] (value ∷ row) h = absurd h
row_weight (column ∷ columns) [] h = absurd h
row_weight (column ∷ columns) (value ∷ row) h =
    let joined : length (row_bytes (value ∷ row)) ≡ length (cell_bytes value) + length (row_bytes row)
    = length-append (cell_bytes value) (row_bytes row) in
    omega (arith, cell_weight column.kind value h.0, row_weight columns row h.1, joined, sum_next cell_len value row)

-- things whose lengths are known, one behind the other
module _ {T : Type 0} (spell : T → List ℕ) (len : T → ℕ) where
  total : (xs : List T) → AllByRecursion (λ x. length (spell x) ≡ len x) xs
      → length (flat_map spell xs) ≡ sum (map len xs)
  total [] h = refl
  total (x ∷ xs) h =
      let joined : length (flat_map spell (x ∷ xs)) ≡ length (spell x) + length (flat_map spell xs)
      = length-append (spell x) (flat_map spell xs) in
      omega (arith, h.0, total xs h.1, joined, sum_next len x xs)

update_weight : (columns : List Column) (earlier : List (ℕ × List Value)) (update : ℕ × List Value)
    → IsUpdate columns earlier update → length (update_bytes update) ≡ 8 + row_len update.1
update_weight columns earlier update h =
    let is : length (update_bytes update) ≡ 8 + length (row_bytes update.1)
    = length-append (to_le_bytes w64 update.0) (row_bytes update.1) in
    omega (arith, is, row_weight columns update.1 h.row)

table_weight : (tables : List TableEntry) (earlier : List LogTable) (table : LogTable) (part : TableNet)
    → IsTable tables earlier table → Records part table → length (table_bytes table) ≡ part_len part
table_weight tables earlier table part h r =
    let updates = total update_bytes (λ u. 8 + row_len u.1) table.updates
    (all_of (IsUpdate h.columns) (λ u. length (update_bytes u) ≡ 8 + row_len u.1) (update_weight h.columns) []
    table.updates h.updates.follow) in
    let tail = total row_bytes row_len table.tail
    (all_of (IsTailRow h.columns) (λ row. length (row_bytes row) ≡ row_len row)
    (λ before row k. row_weight h.columns row k) [] table.tail h.tail.follow) in
    let rows = counted w32 row_bytes table.tail in
    let roots = counted w32 id_bytes table.groups in
    let ids = counted w32 id_bytes table.deletes in
    let behind = ids ++ (roots ++ rows) in
    let all : length (table_bytes table) ≡ 8 + length (flat_map update_bytes table.updates ++ behind)
    = length-append (to_le_bytes w32 table.table ++ to_le_bytes w32 (length table.updates))
    (flat_map update_bytes table.updates ++ behind) in
    let one = length-append (flat_map update_bytes table.updates) behind in
    let of_ids : length behind ≡ 4 + length (flat_map id_bytes table.deletes ++ (roots ++ rows))
    = length-append (to_le_bytes w32 (length table.deletes)) (flat_map id_bytes table.deletes ++ (roots ++ rows)) in
    let two = length-append (flat_map id_bytes table.deletes) (roots ++ rows) in
    let of_roots : length (roots ++ rows) ≡ 4 + length (flat_map id_bytes table.groups ++ rows)
    = length-append (to_le_bytes w32 (length table.groups)) (flat_map id_bytes table.groups ++ rows) in
    let three = length-append (flat_map id_bytes table.groups) rows in
    let of_rows : length rows ≡ 4 + length (flat_map row_bytes table.tail)
    = length-append (to_le_bytes w32 (length table.tail)) (flat_map row_bytes table.tail) in
    let told = ap updates_len r.updates in
    let gone = ap (λ (l : List ℕ). length l) r.deletes in
    let new = ap rows_len r.tail in
    let weighs : part_len part
    ≡ 20 + (updates_len part.updates + (8 * length part.deletes + (8 * group_count part + rows_len (tail_rows part))))
    = refl in
    omega (
      arith,
      updates,
      tail,
      ids_total table.deletes,
      ids_total table.groups,
      all,
      one,
      of_ids,
      two,
      of_roots,
      three,
      of_rows,
      told,
      gone,
      r.groups,
      new,
      weighs,
    )

tables_weight : (there : List TableEntry) (earlier tables : List LogTable) (net : List TableNet)
    → AllFollow (IsTable there) earlier tables → AreRecorded net tables
    → length (flat_map table_bytes tables) ≡ sum (map part_len net)
tables_weight there earlier [] [] h r = refl
tables_weight there earlier [] (part ∷ net) h r = absurd r
tables_weight there earlier (table ∷ tables) [] h r = absurd r
tables_weight there earlier (table ∷ tables) (part ∷ net) h r =
    let joined : length (flat_map table_bytes (table ∷ tables))
    ≡ length (table_bytes table) + length (flat_map table_bytes tables)
    = length-append (table_bytes table) (flat_map table_bytes tables) in
    let others = tables_weight there (earlier ++ table ∷ []) tables net h.1 r.1 in
    omega (
      arith,
      table_weight there earlier table part h.0 r.0,
      others,
      joined,
      sum_next part_len part net,
    )

capped_is_cap : (n : ℕ) → capped n ≡ cap n
capped_is_cap n = grind arith

pub payload_weight : (commit : LogCommit) → HasWeight commit (capped (length (payload_bytes commit)))
payload_weight (Create name columns) tables net h r = absurd r
payload_weight (Change changed) tables net h r =
    let all : length (payload_bytes (Change changed)) ≡ 3 + length (flat_map table_bytes changed)
    = length-append (CHANGE_TAG ∷ to_le_bytes w16 (length changed)) (flat_map table_bytes changed) in
    let weighs : payload_len net ≡ 3 + sum (map part_len net) = refl in
    let same : length (payload_bytes (Change changed)) ≡ payload_len net
    = omega (arith, all, weighs, tables_weight tables [] changed net h.follow r) in
    ap capped same ∙ capped_is_cap (payload_len net)
