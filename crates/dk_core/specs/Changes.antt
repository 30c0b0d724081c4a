-- Which rows a Change may have, and which of its statement's rows the versions since its Call have.
use Rattle.std.specs.Prelude.{ℕ, Bool, true, false, ◌&&◌, not, List, Option, Some, None, ◌==◌, nat_lt, if◌then◌else◌}
use lib.Pointwise.{pointwise}
use Rattle.std.specs.List.{list_all, list_any}
use Rattle.dk_values.specs.declared.value.Value.{Value}
use Rattle.dk_types.specs.declared.net.TableNet.{TableNet}
use Rattle.dk_types.specs.declared.vector.VectorId.{VectorId}
use Rattle.dk_si.specs.declared.machine.WriteSet.{WriteSet}
use Rattle.dk_si.specs.declared.meaning.Meaning.{Meaning}
use Rattle.dk_si.specs.declared.meaning.Meaning.TheVariants as meant
use Rattle.dk_si.specs.Machine.{changed_ids}
use Rattle.dk_si.specs.Meaning.{same_value}
use Rattle.dk_si.specs.Nets.{is_empty, net_has, has_id}
use Rattle.dk_core.specs.declared.seat.Seat.{Seat}
use Rattle.dk_core.specs.Layout.{is_in_vector}

-- the update is one of these, with its values
abbrev pub has_update : List (ℕ × List Value) → (ℕ × List Value) → Bool
has_update updates update = list_any (λ other. other.0 == update.0 && pointwise same_value other.1 update.1) updates

-- it updates rows or deletes rows, and appends none
abbrev pub is_one_kind : TableNet → Bool
is_one_kind part = is_empty part.rows
    && (if is_empty part.updates then not (is_empty part.deletes) else is_empty part.deletes)

-- the part's rows are committed ones that no version since the Call has
abbrev pub are_fresh_rows : ℕ → List TableNet → TableNet → Bool
are_fresh_rows count made part = list_all (λ row. nat_lt row count && not (net_has made part.table row))
    (changed_ids part)

-- the part's rows are of those that the statement changes, with its values
abbrev pub is_part_of : TableNet → TableNet → Bool
is_part_of whole part =
    part.table == whole.table
    && (list_all (has_update whole.updates) part.updates && list_all (has_id whole.deletes) part.deletes)

abbrev pub is_meant : Meaning → TableNet → Bool
is_meant (meant.Change count whole) part = is_part_of whole part
is_meant other part = false

-- committed rows that the statement changes, each once, with the values that it gives them
abbrev pub is_fresh_part : ℕ → List TableNet → Meaning → TableNet → Bool
is_fresh_part count made meaning part = are_fresh_rows count made part && is_meant meaning part

-- a Change has such rows, all of one vector, and updates them or deletes them
abbrev pub is_change_of : List ℕ → ℕ → List TableNet → Meaning → VectorId → TableNet → Bool
is_change_of groups count made meaning at part =
    (is_one_kind part && (at.table == part.table && list_all (is_in_vector groups at) (changed_ids part)))
    && is_fresh_part count made meaning part

-- the versions since the Call have all rows that the statement changes
abbrev pub has_whole_change : Option WriteSet → Seat → Bool
has_whole_change None seat = true
has_whole_change (Some set) seat = list_all (net_has seat.made set.table) set.ids

-- no row was changed since the Call
abbrev pub has_no_change : Seat → Bool
has_no_change seat = list_all (λ part. is_empty (changed_ids part)) seat.made
