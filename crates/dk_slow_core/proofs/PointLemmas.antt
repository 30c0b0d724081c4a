-- The core behind a point that is a commit, by its parts.
use Rattle.std.proofs.Common.{◌≡◌, ℕ, ◌+◌, ◌-◌, List, [], ◌∷◌, ◌++◌, Option, Some, None, length, take, slice_set, ap, ◌∙◌, refl, arith}
use Rattle.std.proofs.Math.Seq.{take-append_seam}
use Rattle.std.proofs.lemmas.List.{length-append}
use Rattle.dk_types.specs.declared.reply.Reply.{Reply}
use Rattle.dk_types.specs.declared.reply.Reply.TheVariants as reply
use Rattle.dk_si.specs.declared.history.Entry.{Entry}
use Rattle.dk_si.specs.declared.history.Entry.TheVariants as entry
use Rattle.dk_core.specs.declared.event.Done.TheVariants as done
use Rattle.dk_core.specs.declared.event.Event.{Event}
use Rattle.dk_core.specs.declared.event.Event.TheVariants as event
use Rattle.dk_core.specs.declared.seat.Seat.{Seat}
use Rattle.dk_core.specs.declared.seat.Snapshot.{Snapshot}
use Rattle.dk_core.specs.Core.{Core, seat_at, next_receipt}
use Rattle.dk_core.specs.Entries.{entry_of, state_with, standing_with, with_entry}
use Rattle.dk_core.specs.Step.{seat_after_reply, seat_after_commit, without_oldest, seats_after, layout_after}
use Rattle.dk_slow_seats.specs.Seats.{with_seat, seats_put, with_commit, committed_at}
use Rattle.dk_slow_core.specs.Moves.{entered, committed, standing_behind, core_behind}
use Rattle.dk_slow_state.specs.Moves.{machine_behind}
use Rattle.dk_slow_core.proofs.PlaceLemmas.{put_back}

live_put : (core : Core) (number : ℕ) (seat : Seat) (live : Option Snapshot) → seat_at core.seats number ≡ Some seat
    → seats_put core.seats number (elim live as (λ x. Option Seat) [
      | None ↦ None
      | Some live ↦ Some (with_commit (length core.now.commits) seat live)
    ])
    ≡ slice_set core.seats (number - 1) (elim live as (λ x. Seat) [
      | None ↦ seat
      | Some live ↦ record
          (seat_after_reply seat) { live = Some (record live { commit = Some (length core.now.commits + 1) }) }
    ])
live_put core number seat None is = put_back core.seats number seat is
live_put core number seat (Some live) is = refl

seat_put : (core : Core) (number : ℕ) (found : Option Seat) → seat_at core.seats number ≡ found
    → seats_put core.seats number (elim found as (λ x. Option Seat) [
      | None ↦ None
      | Some seat ↦ elim seat.live as (λ x. Option Seat) [
        | None ↦ None
        | Some live ↦ Some (with_commit (length core.now.commits) seat live)
      ]
    ])
    ≡ elim found as (λ x. List Seat) [
      | None ↦ core.seats
      | Some seat ↦ slice_set core.seats (number - 1) (seat_after_commit core seat)
    ]
seat_put core number None is = refl
seat_put core number (Some seat) is = live_put core number seat seat.live is

commit_put : (core : Core) (number : ℕ)
    → seats_put core.seats number (committed_at (length core.now.commits) core.seats number)
    ≡ with_seat core.seats number (seat_after_commit core)
commit_put core number = seat_put core number (seat_at core.seats number) refl

commit_is : (core : Core) (number : ℕ) (answer : Reply)
    → committed core number answer
    ≡ record (entered core (entry.Reply number answer)) { seats = with_seat core.seats number (seat_after_commit core) }
commit_is core number answer =
    ap (λ seats. record (entered core (entry.Reply number answer)) { seats = seats }) (commit_put core number)

-- the core behind an entry, if there is one, with these seats and groups
behind_entry : Core → Option Entry → List Seat → List (List ℕ) → Core
behind_entry core found seats layout = record core {
  entries = with_entry core.entries found;
  standing = standing_with core found;
  now = state_with core found;
  seats = seats;
  layout = layout;
}

behind_reply : (core : Core) (number : ℕ) (answer : Reply) (seats : List Seat) (layout : List (List ℕ))
    → record (entered core (entry.Reply number answer)) { seats = seats; layout = layout }
    ≡ behind_entry core (Some (entry.Reply number answer)) seats layout
unfolding behind_entry machine_behind standing_behind
behind_reply core number answer seats layout = refl

behind_event : (core : Core) (happens : Event)
    → behind_entry core (entry_of core happens) (seats_after core happens) (layout_after core happens)
    ≡ core_behind core happens
unfolding behind_entry core_behind
behind_event core happens = refl

-- the core behind a commit's reply, with these groups
commit_entry : (core : Core) (number : ℕ) (answer : Reply) (layout : List (List ℕ))
    → record (committed core number answer) { layout = layout }
    ≡ behind_entry core (Some (entry.Reply number answer)) (with_seat core.seats number (seat_after_commit core)) layout
commit_entry core number answer layout =
    let with_layout : Core → Core = λ behind. record behind { layout = layout } in
    ap with_layout (commit_is core number answer)
    ∙ behind_reply core number answer (with_seat core.seats number (seat_after_commit core)) layout

pub changed_behind : (core : Core) (number moment count : ℕ)
    → committed core number (reply.Changed count (Some (next_receipt core.now moment)))
    ≡ core_behind core (event.Point number (done.Changed count) moment)
changed_behind core number moment count =
    commit_entry core number (reply.Changed count (Some (next_receipt core.now moment))) core.layout
    ∙ behind_event core (event.Point number (done.Changed count) moment)

pub commit_behind : (core : Core) (number moment : ℕ)
    → committed core number (reply.Committed (next_receipt core.now moment))
    ≡ core_behind core (event.Point number done.Commit moment)
commit_behind core number moment =
    commit_entry core number (reply.Committed (next_receipt core.now moment)) core.layout
    ∙ behind_event core (event.Point number done.Commit moment)

pub created_behind : (core : Core) (number moment : ℕ)
    → committed (record core { layout = core.layout ++ [] ∷ [] }) number
    (reply.Created (next_receipt core.now moment))
    ≡ core_behind core (event.Point number done.Created moment)
created_behind core number moment =
    commit_entry core number (reply.Created (next_receipt core.now moment)) (core.layout ++ [] ∷ [])
    ∙ behind_event core (event.Point number done.Created moment)

without_last : {T : Type 0} (xs : List T) (x : T) → without_oldest (xs ++ x ∷ []) ≡ xs
without_last xs x =
    let less : length (xs ++ x ∷ []) - 1 ≡ length xs = omega (arith, length-append xs (x ∷ [])) in
    ap (λ n. take n (xs ++ x ∷ [])) less ∙ take-append_seam xs (x ∷ [])

pub last_table_removed : (core : Core) → record core { layout = without_oldest (core.layout ++ [] ∷ []) } ≡ core
last_table_removed core = ap (λ layout. record core { layout = layout }) (without_last core.layout [])
