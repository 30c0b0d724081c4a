-- The core behind each event, by its parts.
use Rattle.std.proofs.Common.{◌≡◌, ℕ, ◌-◌, true, false, List, [], ◌∷◌, ◌++◌, Some, None, slice_set, ap, ◌∙◌, sym, refl}
use Rattle.std.specs.Prelude.{Bool, Option, option_map, if◌then◌else◌}
use Rattle.dk_values.specs.declared.column.Column.{Column}
use Rattle.dk_values.specs.declared.value.Value.{Value}
use Rattle.dk_types.specs.declared.reply.Refusal.TheVariants as refusal
use Rattle.dk_types.specs.declared.reply.Reply.{Reply}
use Rattle.dk_types.specs.declared.vector.VectorId.{VectorId}
use Rattle.dk_si.specs.declared.history.Asked.{Asked}
use Rattle.dk_si.specs.declared.history.Entry.{Entry}
use Rattle.dk_si.specs.declared.history.Entry.TheVariants as entry
use Rattle.dk_core.specs.declared.event.Done.TheVariants as done
use Rattle.dk_core.specs.declared.event.Event.TheVariants as event
use Rattle.dk_core.specs.declared.seat.Seat.{Seat}
use Rattle.dk_si.specs.Standing.{first_standing}
use Rattle.dk_si.proofs.StandingLemmas.{standing_and_one}
use Rattle.dk_core.specs.Core.{Core, no_seat, seat_at, next_snapshot}
use Rattle.dk_core.specs.Entries.{state_with, standing_with, with_entry}
use Rattle.dk_core.specs.Findings.{is_full, spent_numbers}
use Rattle.dk_core.specs.Step.{seat_after_reply, without_oldest, without_newest}
use Rattle.dk_slow_core.specs.Moves.{entered, placed, standing_behind, standing_of, core_behind}
use Rattle.dk_slow_state.specs.Moves.{machine_behind}
use Rattle.dk_slow_seats.specs.Seats.{with_seat, begun_entry, seats_with, seats_put}

pub standing_first : (iteration : ℕ) → standing_of iteration [] ≡ first_standing
unfolding standing_of
standing_first iteration = refl

pub standing_more : (iteration : ℕ) (entries : List Entry) (entry : Entry)
    → standing_of iteration (entries ++ entry ∷ []) ≡ standing_behind iteration (standing_of iteration entries) entry
unfolding standing_of standing_behind
standing_more iteration entries entry = standing_and_one iteration entries entry

pub call_behind : (core : Core) (number : ℕ) (asked : Asked)
    → seats_with (entered core (entry.Call number asked)) number (λ seat. record seat { found = None })
    ≡ core_behind core (event.Call number asked)
unfolding core_behind machine_behind standing_behind
call_behind core number asked = refl

put_of : (seats : List Seat) (number : ℕ) (change : Seat → Seat) (seat : Option Seat)
    → seats_put seats number (option_map change seat)
    ≡ elim seat as (λ x. List Seat) [ None ↦ seats | Some seat ↦ slice_set seats (number - 1) (change seat) ]
put_of seats number change None = refl
put_of seats number change (Some seat) = refl

reply_is : (core : Core) (number : ℕ) (reply : Reply)
    → seats_with (entered core (entry.Reply number reply)) number seat_after_reply
    ≡ core_behind core (event.Reply number reply)
unfolding core_behind machine_behind standing_behind
reply_is core number reply = refl

pub reply_behind : (core : Core) (number : ℕ) (reply : Reply) (seat : Option Seat)
    → seat ≡ option_map seat_after_reply (seat_at core.seats number)
    → record (entered core (entry.Reply number reply)) { seats = seats_put core.seats number seat }
    ≡ core_behind core (event.Reply number reply)
reply_behind core number reply seat is =
    ap (λ seats. record (entered core (entry.Reply number reply)) { seats = seats })
    (ap (seats_put core.seats number) is ∙ put_of core.seats number seat_after_reply (seat_at core.seats number))
    ∙ reply_is core number reply

pub mark_behind : (core : Core) (number : ℕ) → core ≡ core_behind core (event.Mark number)
unfolding core_behind
mark_behind core number = refl

pub leave_behind : (core : Core) (number : ℕ)
    → seats_with core number (λ seat. record seat { live = None }) ≡ core_behind core (event.Leave number)
unfolding core_behind
leave_behind core number = refl

pub finish_behind : (core : Core) (number : ℕ)
    → seats_with core number (λ seat. record seat { live = None }) ≡ core_behind core (event.Finish number)
unfolding core_behind
finish_behind core number = refl

-- the core behind a Begin, where none can begin and where one can
begin_as : Core → ℕ → Bool → Core
begin_as core number full =
    let found : Option Entry = if full then None else Some (begun_entry core number) in
    record core {
      entries = with_entry core.entries found;
      standing = standing_with core found;
      now = state_with core found;
      seats = with_seat core.seats number (λ seat. if full
          then record seat { found = Some (refusal.Exhausted (spent_numbers core)) }
          else record no_seat { live = Some (next_snapshot core.now) });
    }

begin_is : (core : Core) (number : ℕ) → begin_as core number (is_full core) ≡ core_behind core (event.Begin number)
unfolding core_behind begin_as
begin_is core number = refl

pub full_behind : (core : Core) (number : ℕ) → is_full core ≡ true
    → seats_with core number (λ seat. record seat { found = Some (refusal.Exhausted (spent_numbers core)) })
    ≡ core_behind core (event.Begin number)
unfolding begin_as
full_behind core number full = ap (begin_as core number) (sym full) ∙ begin_is core number

pub begin_behind : (core : Core) (number : ℕ) → is_full core ≡ false
    → seats_with (entered core (begun_entry core number)) number
    (λ seat. record no_seat { live = Some (next_snapshot core.now) })
    ≡ core_behind core (event.Begin number)
unfolding begin_as machine_behind standing_behind
begin_behind core number full = ap (begin_as core number) (sym full) ∙ begin_is core number

-- ---- events that change versions alone, or nothing

pub stamp_behind : (core : Core) (number : ℕ)
    → seats_with core number (λ seat. record seat { versions = without_oldest seat.versions })
    ≡ core_behind core (event.Stamp number)
unfolding core_behind
stamp_behind core number = refl

pub undo_behind : (core : Core) (number : ℕ)
    → seats_with core number (λ seat. record seat { versions = without_newest seat.versions })
    ≡ core_behind core (event.Undo number)
unfolding core_behind
undo_behind core number = refl

pub drop_behind : (core : Core) (at : VectorId) (bound : ℕ) → core ≡ core_behind core (event.Drop at bound)
unfolding core_behind
drop_behind core at bound = refl

pub settle_behind : (core : Core) (table group root : ℕ) → core ≡ core_behind core (event.Settle table group root)
unfolding core_behind
settle_behind core table group root = refl

-- ---- rows that are placed

pub append_behind : (core : Core) (number table group first : ℕ) (rows : List (List Value))
    → placed core number table group rows ≡ core_behind core (event.Append number table group first rows)
unfolding core_behind
append_behind core number table group first rows = refl

pub adopt_behind : (core : Core) (number table group first : ℕ) (rows : List (List Value))
    → placed core number table group rows ≡ core_behind core (event.Adopt number table group first rows)
unfolding core_behind
adopt_behind core number table group first rows = refl

-- the first point of a creation
pub create_behind : (core : Core) (number moment : ℕ) (name : List ℕ) (schema : List Column)
    → seats_with core number (λ seat. record seat { creates = Some (record { name = name; schema = schema }) })
    ≡ core_behind core (event.Point number (done.Create name schema) moment)
unfolding core_behind
create_behind core number moment name schema = refl
