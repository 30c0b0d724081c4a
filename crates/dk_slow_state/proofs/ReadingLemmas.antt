-- A net's changes of one table, and sums of numbers that end at the greatest one.
use Rattle.std.proofs.Common.{◌≡◌, ℕ, Bool, true, false, List, [], ◌∷◌, Option, Some, None, map, take, slice_get, slice_set, ap, ◌∙◌, sym, refl}
use Rattle.std.specs.Prelude.{◌==◌, sum, if◌then◌else◌}
use Rattle.std.proofs.Math.Seq.{take-nil}
use Rattle.std.proofs.lemmas.Bool.{eqb-true}
use Rattle.std.proofs.lemmas.List.{map-id}
use Rattle.dk_values.specs.declared.value.Value.{Value}
use Rattle.dk_types.specs.declared.net.TableNet.{TableNet}
use Rattle.dk_fault.specs.Counts.{capped}
use Rattle.dk_si.specs.declared.database.Table.{Table}
use Rattle.dk_si.specs.Database.{apply_net, apply_part, rows_after}
use Rattle.dk_si.proofs.SessionStepLemmas.{set_there}
use Rattle.dk_core.specs.Reading.{rows_of_table}
use Rattle.dk_core.proofs.DeleteLemmas.{set_other}
use Rattle.dk_slow_state.specs.Pages.{rows_behind, first_id}

-- the tables behind a part of a net, by the table that it is of
part_by : TableNet → List Table → Option Table → List Table
part_by part tables found = elim found as (λ x. List Table) [
  | None ↦ tables
  | Some own ↦ slice_set tables part.table (record own { rows = rows_after part own.rows })
]

table_by : TableNet → Bool → Table → Table
table_by part here table = record table { rows = if here then rows_after part table.rows else table.rows }

-- a part changes the rows of its table alone
behind_part : (part : TableNet) (tables : List Table) (table : ℕ) (here : Bool) (found : Table) (own : Option Table)
    → (part.table == table) ≡ here → slice_get tables part.table ≡ own → slice_get tables table ≡ Some found
    → slice_get (part_by part tables own) table ≡ Some (table_by part here found)
unfolding part_by table_by
behind_part part tables table false found None is at there = there
behind_part part tables table false found (Some own) is at there =
    set_other tables part.table table (record own { rows = rows_after part own.rows }) is ∙ there
behind_part part tables table true found None is at there =
    let same : part.table ≡ table = eqb-true part.table table is in
    let both : Some found ≡ None = sym there ∙ (sym (ap (slice_get tables) same) ∙ at) in
    cc
behind_part part tables table true found (Some own) is at there =
    let same : part.table ≡ table = eqb-true part.table table is in
    let both : Some own ≡ Some found = sym at ∙ (ap (slice_get tables) same ∙ there) in
    let one : own ≡ found = cc in
    let after : Table → Table = λ own. record own { rows = rows_after part own.rows } in
    sym (ap (slice_get (slice_set tables part.table (after own))) same)
    ∙ (set_there tables part.table own (after own) at ∙ ap (λ own. Some (after own)) one)

part_is : (part : TableNet) (tables : List Table) → part_by part tables (slice_get tables part.table)
    ≡ apply_part part tables
unfolding part_by
part_is part tables = refl

-- the rows of a table behind a net, behind its first part
some_step : (part : TableNet) (parts : List TableNet) (tables : List Table) (table : ℕ) (found : Table)
    → ((behind : Table) → slice_get (apply_part part tables) table ≡ Some behind
    → rows_behind parts table behind.rows ≡ rows_of_table (apply_net parts (apply_part part tables)) table)
    → slice_get tables table ≡ Some found
    → rows_behind (part ∷ parts) table found.rows ≡ rows_of_table (apply_net (part ∷ parts) tables) table
unfolding table_by
some_step part parts tables table found others there =
    others (table_by part (part.table == table) found)
    (sym (ap (λ all. slice_get all table) (part_is part tables))
    ∙ behind_part part tables table (part.table == table) found (slice_get tables part.table) refl refl there)

some_behind : (parts : List TableNet) (tables : List Table) (table : ℕ) (found : Table)
    → slice_get tables table ≡ Some found
    → rows_behind parts table found.rows ≡ rows_of_table (apply_net parts tables) table
some_behind [] tables table found there =
    sym (ap (λ own. elim own as (λ x. List (Option (List Value))) [ None ↦ [] | Some own ↦ own.rows ]) there)
some_behind (part ∷ parts) tables table found there =
    some_step part parts tables table found (some_behind parts (apply_part part tables) table) there

-- a part makes no table
none_part : (part : TableNet) (tables : List Table) (table : ℕ) (here : Bool) (own : Option Table)
    → (part.table == table) ≡ here → slice_get tables part.table ≡ own → slice_get tables table ≡ None
    → slice_get (part_by part tables own) table ≡ None
unfolding part_by
none_part part tables table here None is at there = there
none_part part tables table false (Some own) is at there =
    set_other tables part.table table (record own { rows = rows_after part own.rows }) is ∙ there
none_part part tables table true (Some own) is at there =
    let same : part.table ≡ table = eqb-true part.table table is in
    let both : Some own ≡ None = sym at ∙ (ap (slice_get tables) same ∙ there) in
    cc

none_behind : (parts : List TableNet) (tables : List Table) (table : ℕ) → slice_get tables table ≡ None
    → [] ≡ rows_of_table (apply_net parts tables) table
none_behind [] tables table there =
    sym (ap (λ own. elim own as (λ x. List (Option (List Value))) [ None ↦ [] | Some own ↦ own.rows ]) there)
none_behind (part ∷ parts) tables table there =
    none_behind parts (apply_part part tables) table
    (sym (ap (λ all. slice_get all table) (part_is part tables))
    ∙ none_part part tables table (part.table == table) (slice_get tables part.table) refl refl there)

pub none_seen : (rows : List (Option (List Value))) (count table : ℕ) (parts : List TableNet) (tables : List Table)
    → rows ≡ [] → slice_get tables table ≡ None
    → rows ≡ take count (rows_of_table (apply_net parts tables) table)
none_seen rows count table parts tables none there =
    none ∙ (sym (take-nil count) ∙ ap (take count) (none_behind parts tables table there))

pub some_seen : (count table : ℕ) (parts : List TableNet) (tables : List Table) (found : Table)
    → slice_get tables table ≡ Some found
    → take count (rows_behind parts table found.rows) ≡ take count (rows_of_table (apply_net parts tables) table)
some_seen count table parts tables found there = ap (take count) (some_behind parts tables table found there)

-- a group's first row has the id of as many rows as stand before it
pub first_is : (groups : List ℕ) (group : ℕ)
    → capped (sum (map (λ (n : ℕ). n) (take group groups))) ≡ first_id groups group
first_is groups group = ap (λ (rows : List ℕ). capped (sum rows)) (map-id (take group groups))
