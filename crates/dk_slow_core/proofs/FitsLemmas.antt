-- Rows that may be put into a group can be counted there.
use Rattle.std.proofs.Common.{◌≡◌, ℕ, ◌+◌, ◌-◌, ◌<◌, ◌^◌, Bool, true, false, List, [], ◌∷◌, Some, None, length, ap, arith}
use Rattle.std.specs.Prelude.{◌&&◌, not, min}
use Rattle.std.proofs.lemmas.Bool.{and_parts, eqb-true, false≢true}
use Rattle.std.proofs.lemmas.Option.{slice_get_past}
use Rattle.dk_values.specs.declared.value.Value.{Value}
use Rattle.dk_si.specs.declared.limits.TheConstants.{GROUP_ROWS}
use Rattle.dk_si.specs.declared.machine.OpenTransaction.{OpenTransaction}
use Rattle.dk_si.specs.declared.machine.Session.{Session}
use Rattle.dk_si.specs.declared.machine.Transaction.{Transaction}
use Rattle.dk_si.specs.declared.machine.Transaction.TheVariants as state
use Rattle.dk_si.specs.Nets.{is_empty}
use Rattle.dk_core.specs.declared.event.Event.TheVariants as event
use Rattle.dk_core.specs.declared.seat.Seat.{Seat}
use Rattle.dk_core.specs.Allows.{allows, at_session}
use Rattle.dk_core.specs.Commits.{are_next_rows, is_adopted_group, is_next_append, left_to_place, may_adopt, may_append, no_full_group_left}
use Rattle.dk_core.specs.Core.{Core}
use Rattle.dk_core.specs.Layout.{groups_of, rows_in}
use Rattle.dk_core.proofs.StepLemmas.{found}
use Rattle.dk_slow_core.specs.Moves.{FitsIn}

some_rows : (rows : List (List Value)) → not (is_empty rows) ≡ true → 0 < length rows
some_rows [] some = absurd (false≢true some)
some_rows (row ∷ rows) some = omega arith

count_small : (there count left : ℕ) → 0 < count → count ≡ min left (GROUP_ROWS - there) → there + count < 2 ^ 64
count_small there count left some is = grind (arith, some, is)

next_fits : (layout : List (List ℕ)) (table group first left : ℕ) (rows : List (List Value)) → 0 < length rows
    → is_next_append (groups_of layout table) left group first rows ≡ true → FitsIn layout table group rows
next_fits layout table group first left rows some next =
    count_small (rows_in (groups_of layout table) group) (length rows) left some
    (eqb-true _ _ (and_parts _ _ next).1)

-- the rows that come next are some
are_some : (core : Core) (active : OpenTransaction) (table : ℕ) (rows : List (List Value)) (session : Session)
    (seat : Seat) → are_next_rows core active table rows session seat ≡ true → 0 < length rows
are_some core active table rows session seat next =
    some_rows rows (and_parts (not (is_empty rows)) _ (and_parts _ _ next).1).0

append_by : (core : Core) (table group first : ℕ) (rows : List (List Value)) (session : Session) (seat : Seat)
    (transaction : Transaction)
    → elim transaction as (λ x. Bool) [
      | state.Outside ↦ false
      | state.Aborted ↦ false
      | state.Open active ↦ are_next_rows core active table rows session seat
          && (no_full_group_left core active session seat
          && is_next_append (groups_of core.layout table) (left_to_place core active session seat table) group first
          rows)
    ] ≡ true → FitsIn core.layout table group rows
append_by core table group first rows session seat state.Outside may = absurd (false≢true may)
append_by core table group first rows session seat state.Aborted may = absurd (false≢true may)
append_by core table group first rows session seat (state.Open active) may =
    let parts = and_parts (are_next_rows core active table rows session seat) _ may in
    next_fits core.layout table group first (left_to_place core active session seat table) rows
    (are_some core active table rows session seat parts.0)
    (and_parts (no_full_group_left core active session seat) _ parts.1).1

pub append_fits : (core : Core) (number table group first : ℕ) (rows : List (List Value))
    → allows core (event.Append number table group first rows) ≡ true → FitsIn core.layout table group rows
append_fits core number table group first rows allowed =
    let test = may_append core table group first rows in
    let f = found core number test
    (and_parts (at_session core number test) _ (and_parts _ _ allowed).0).0
    in
    append_by core table group first rows f.session f.seat f.session.transaction f.passes

none_yet : (groups : List ℕ) (group : ℕ) → group ≡ length groups → rows_in groups group ≡ 0
none_yet groups group is =
    ap (λ found. elim found as (λ x. ℕ) [ None ↦ 0 | Some rows ↦ rows ])
    (slice_get_past groups group (omega (arith, is)))

full_small : (there count : ℕ) → there ≡ 0 → count ≡ GROUP_ROWS → there + count < 2 ^ 64
full_small there count none is = grind (arith, none, is)

adopted_fits : (layout : List (List ℕ)) (table group first : ℕ) (rows : List (List Value))
    → is_adopted_group (groups_of layout table) group first rows ≡ true → FitsIn layout table group rows
adopted_fits layout table group first rows full =
    let parts = and_parts _ _ full in
    full_small (rows_in (groups_of layout table) group) (length rows)
    (none_yet (groups_of layout table) group (eqb-true _ _ (and_parts _ _ parts.1).0)) (eqb-true _ _ parts.0)

adopt_by : (core : Core) (table group first : ℕ) (rows : List (List Value)) (session : Session) (seat : Seat)
    (transaction : Transaction)
    → elim transaction as (λ x. Bool) [
      | state.Outside ↦ false
      | state.Aborted ↦ false
      | state.Open active ↦ are_next_rows core active table rows session seat
          && is_adopted_group (groups_of core.layout table) group first rows
    ] ≡ true → FitsIn core.layout table group rows
adopt_by core table group first rows session seat state.Outside may = absurd (false≢true may)
adopt_by core table group first rows session seat state.Aborted may = absurd (false≢true may)
adopt_by core table group first rows session seat (state.Open active) may =
    adopted_fits core.layout table group first rows
    (and_parts (are_next_rows core active table rows session seat) _ may).1

pub adopt_fits : (core : Core) (number table group first : ℕ) (rows : List (List Value))
    → allows core (event.Adopt number table group first rows) ≡ true → FitsIn core.layout table group rows
adopt_fits core number table group first rows allowed =
    let test = may_adopt core table group first rows in
    let f = found core number test
    (and_parts (at_session core number test) _ (and_parts _ _ allowed).0).0
    in
    adopt_by core table group first rows f.session f.seat f.session.transaction f.passes
