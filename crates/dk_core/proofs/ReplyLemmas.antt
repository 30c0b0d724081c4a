-- A reply keeps what fits.
use Rattle.dk_si.proofs.TransitionLemmas.{rollback_ends}
use Rattle.dk_core.specs.Allows as may
use Rattle.dk_core.specs.Changes as in_changes
use Rattle.dk_core.specs.Commits as in_commits
use Rattle.dk_core.specs.Replies as in_replies
use Rattle.dk_core.specs.Step as does
use Rattle.dk_si.specs.Nets.{is_empty}
use Rattle.std.proofs.Common.{arith, ◌≡◌, ◌⊎◌, inl, inr, ⊎_elim, ℕ, ◌-◌, ◌<◌, ◌≤◌, Bool, true, false, List, [], ◌∷◌, ◌++◌, length, Option, Some, None, ap, ◌∙◌, sym, refl, subst, slice_get, slice_set}
use Rattle.std.specs.Prelude.{◌&&◌, ◌||◌, not, ◌==◌, if◌then◌else◌}
use Rattle.std.specs.List.{list_all}
use Rattle.std.proofs.lemmas.Bool.{true≢false, false≢true, and_from, and_parts, or_cases, or_right, eqb-true}
use Rattle.std.proofs.lemmas.List.{append-nil}
use Rattle.dk_types.specs.declared.net.TableNet.{TableNet}
use Rattle.dk_types.specs.declared.net.Commit.{Commit}
use Rattle.dk_si.specs.declared.database.Table.{Table}
use Rattle.dk_si.specs.declared.history.Asked.{Asked}
use Rattle.dk_si.specs.declared.history.Entry.{Entry}
use Rattle.dk_si.specs.declared.machine.OpenTransaction.{OpenTransaction}
use Rattle.dk_si.specs.declared.machine.LastTransaction.{LastTransaction}
use Rattle.dk_si.specs.declared.machine.WriteSet.{WriteSet}
use Rattle.dk_si.specs.declared.machine.Transaction.{Transaction}
use Rattle.dk_si.specs.declared.machine.Session.{Session}
use Rattle.dk_si.specs.declared.machine.Machine.{Machine}
use Rattle.dk_si.specs.declared.limits.TheConstants.{MAX_TRANSACTIONS}
use Rattle.dk_si.specs.Nets.{net_has, part_has, has_id, committed_ids, row_count}
use Rattle.dk_si.specs.Machine.{asks_for, changed_ids, session_at, committed_count, meaning_in, next, end_with, stay_open, is_own, aborts, change_transition, transition, net_behind, session_behind, after_aborted, after_reply, last_transaction, write_set_in_flight, kind_of, net_after, write_set}
use Rattle.dk_si.specs.HeldRows.{has_pending_write, writes_row, is_rollback}
use Rattle.dk_si.specs.IsStep.{is_step}
use Rattle.dk_si.specs.ReplyTests.{is_ended, is_commit}
use Rattle.dk_si.specs.MayAnswer.{may_answer}
use Rattle.dk_core.specs.declared.seat.Snapshot.{Snapshot}
use Rattle.dk_core.specs.declared.seat.Seat.{Seat}
use Rattle.dk_core.specs.Core.{Core}
use Rattle.dk_si.proofs.TransitionLemmas.{session_of, Rows, Allowed, Allows, Behind, move_allows, after_rows, ended_allows}
use Rattle.dk_core.proofs.Invariant.{core_with, stands_well, moved, allows_so, Has, Alone, Claims, Links, Sits, Fits, ClaimsOpen, Lawful}
use Rattle.dk_core.proofs.StepLemmas.{found, reply_step, made_has}
use Rattle.dk_core.proofs.MoveLemmas.{stays}
use Rattle.dk_core.proofs.ChangeLemmas.{part_ids, alone_but}
use Rattle.dk_types.specs.declared.reply.Receipt.{Receipt}
use Rattle.dk_types.specs.declared.reply.Reply.{Reply}
use Rattle.dk_si.specs.declared.history.Asked.TheVariants.{Unread, Bad, Good}
use Rattle.dk_si.proofs.PlaceLemmas.{set_length, each_id}
use Rattle.dk_core.proofs.HolderLemmas.{has_parts}
use Rattle.dk_si.proofs.NetLemmas.{net_stays, net_gains}
use Rattle.dk_types.specs.Nets.{IsNet}
use Rattle.dk_si.proofs.MergedNetLemmas.{further_net}
use Rattle.dk_si.specs.declared.meaning.Meaning.{Meaning}
use Rattle.dk_si.specs.Database.{after}
use Rattle.dk_core.proofs.CallLemmas.{entry_moved, steps_more, now_more, conflict_free, not_there, untouched_row}
use Rattle.dk_si.specs.declared.history.Entry.TheVariants as history
use Rattle.dk_si.specs.declared.machine.Transaction.TheVariants as state
use Rattle.dk_core.specs.declared.event.Event.TheVariants as event
use Rattle.dk_types.specs.declared.reply.Reply.TheVariants as told
use Rattle.std.proofs.lemmas.Bool.{cases_Bool, not-true}
use Rattle.std.specs.Prelude.{option_to_list}
use Rattle.dk_si.specs.declared.meaning.Meaning.TheVariants as meant

-- a statement's net has the rows that the net had before, and those that it touches
abbrev pub NetsGrow : Type 0
NetsGrow = (opened : List Table) (commits : List Commit) (active : OpenTransaction) (asked : Option Asked)
    (table row : ℕ)
    → IsNet active.net → row < committed_count opened commits active table
    → (net_has active.net table row ≡ true) ⊎
    (writes_row (write_set_in_flight opened commits (state.Open active) asked) table row ≡ true)
    → net_has (net_behind opened commits active asked) table row ≡ true

-- the rows of a transaction are known behind a reply: of one that stays open by its net, of one that is over by its
-- net or its last call
abbrev pub LeftBy : (ℕ → ℕ → Type 0) → OpenTransaction → Option WriteSet → List TableNet → Transaction → Type 0
LeftBy Q active touched net (state.Open later) =
    (later.number ≡ active.number) × (later.start ≡ active.start) ×
    ((table row : ℕ) → Q table row → net_has later.net table row ≡ true)
LeftBy Q active touched net state.Outside = (table row : ℕ) → Q table row
    → (net_has net table row ≡ true) ⊎ (writes_row touched table row ≡ true)
LeftBy Q active touched net state.Aborted = (table row : ℕ) → Q table row
    → (net_has net table row ≡ true) ⊎ (writes_row touched table row ≡ true)

abbrev pub is_changed_reply : Reply → Bool
is_changed_reply (told.Changed count receipt) = true
is_changed_reply other = false

-- what a reply asks of the versions, with Changed apart
pub quiet_of : (core : Core) (session : Session) (seat : Seat) (reply : Reply)
    → in_replies.suits_versions core session seat reply ≡ true
    → (is_changed_reply reply || (not (in_replies.leaves_open core session reply) || in_changes.has_no_change seat)) ≡
    true
quiet_of core session seat (told.Changed count receipt) suits = refl
quiet_of core session seat other suits = suits

abbrev InNet : (ℕ → ℕ → Type 0) → List TableNet → Type 0
InNet Q net = (table row : ℕ) → Q table row → net_has net table row ≡ true

abbrev Either : (ℕ → ℕ → Type 0) → List TableNet → Option WriteSet → Type 0
Either Q net touched = (table row : ℕ) → Q table row
    → (net_has net table row ≡ true) ⊎ (writes_row touched table row ≡ true)

own_left : (Q : ℕ → ℕ → Type 0) (active : OpenTransaction) (touched : Option WriteSet) (net : List TableNet)
    (own none : Bool)
    → Either Q net touched → (none ≡ true → InNet Q net)
    → (not (in_replies.is_open_transaction (if own then end_with net None else stay_open active net).transaction)
    || none) ≡ true
    → LeftBy Q active touched (if own then end_with net None else stay_open active net).net
    (if own then end_with net None else stay_open active net).transaction
own_left Q active touched net true none either inside quiet = either
own_left Q active touched net false none either inside quiet = (refl, refl, inside quiet)

refused_left : (Q : ℕ → ℕ → Type 0) (active : OpenTransaction) (touched : Option WriteSet) (own aborted none : Bool)
    → Either Q active.net touched → (none ≡ true → InNet Q active.net)
    → (not (in_replies.is_open_transaction
    (if own then end_with active.net None else
    (if aborted then record { transaction = state.Aborted; commit = None; net = active.net } else stay_open active
    active.net)).transaction) || none) ≡ true
    → LeftBy Q active touched
    (if own then end_with active.net None else
    (if aborted then record { transaction = state.Aborted; commit = None; net = active.net } else stay_open active
    active.net)).net
    (if own then end_with active.net None else
    (if aborted then record { transaction = state.Aborted; commit = None; net = active.net } else stay_open active
    active.net)).transaction
refused_left Q active touched true aborted none either inside quiet = either
refused_left Q active touched false true none either inside quiet = either
refused_left Q active touched false false none either inside quiet = (refl, refl, inside quiet)

changed_left : (Q : ℕ → ℕ → Type 0) (active : OpenTransaction) (asked : Option Asked) (touched : Option WriteSet)
    (net : List TableNet) (receipt : Option Receipt) → InNet Q net
    → LeftBy Q active touched (change_transition active asked net receipt).net
    (change_transition active asked net receipt).transaction
changed_left Q active asked touched net (Some receipt) inside = λ table row has. inl (inside table row has)
changed_left Q active asked touched net None inside =
    own_left Q active touched net (is_own active asked) true (λ table row has. inl (inside table row has))
    (λ quiet. inside) (or_right _ true refl)

-- what a reply leaves
pub moves_left : (Q : ℕ → ℕ → Type 0) (opened : List Table) (commits : List Commit) (active : OpenTransaction)
    (asked : Option Asked) (reply : Reply) (none : Bool)
    → ((table row : ℕ) → Q table row
    → (net_has active.net table row ≡ true) ⊎
    (writes_row (write_set_in_flight opened commits (state.Open active) asked) table row ≡ true)
    → net_has (net_behind opened commits active asked) table row ≡ true)
    → Either Q active.net (write_set_in_flight opened commits (state.Open active) asked)
    → (none ≡ true → InNet Q active.net)
    → (is_changed_reply reply
    || (not (in_replies.is_open_transaction (transition opened commits active asked reply).transaction) || none)) ≡
    true
    → LeftBy Q active (write_set_in_flight opened commits (state.Open active) asked)
    (transition opened commits active asked reply).net (transition opened commits active asked reply).transaction
moves_left Q opened commits active asked (told.Created receipt) none grow either inside quiet = either
moves_left Q opened commits active asked (told.Changed count receipt) none grow either inside quiet =
    changed_left Q active asked (write_set_in_flight opened commits (state.Open active) asked)
    (net_behind opened commits active asked) receipt
    (λ table row has. grow table row has (either table row has))
moves_left Q opened commits active asked (told.Rows rows) none grow either inside quiet =
    own_left Q active (write_set_in_flight opened commits (state.Open active) asked) active.net
    (is_own active asked) none either inside quiet
moves_left Q opened commits active asked (told.Begun start) none grow either inside quiet = (refl, refl, inside quiet)
moves_left Q opened commits active asked (told.Committed receipt) none grow either inside quiet = either
moves_left Q opened commits active asked told.Ended none grow either inside quiet = either
moves_left Q opened commits active asked (told.Checkpointed iteration) none grow either inside quiet =
    (refl, refl, inside quiet)
moves_left Q opened commits active asked (told.Refused refusal) none grow either inside quiet =
    refused_left Q active (write_set_in_flight opened commits (state.Open active) asked) (is_own active asked)
    (asks_for (aborts refusal) asked) none either inside quiet

empty_ids : (ids : List ℕ) (row : ℕ) → is_empty ids ≡ true → has_id ids row ≡ true → ⊥
empty_ids [] row none has = false≢true has
empty_ids (id ∷ ids) row none has = false≢true none

-- parts that change no row have none
pub none_made : (parts : List TableNet) (table row : ℕ) → list_all (λ part. is_empty (changed_ids part)) parts ≡ true
    → net_has parts table row ≡ true → ⊥
none_made [] table row none has = false≢true has
none_made (part ∷ parts) table row none has =
    let h = and_parts (is_empty (changed_ids part)) _ none in
    ⊎_elim
    (λ p. empty_ids (changed_ids part) row h.0
    (part_ids part row (and_parts (part.table == table) (part_has part row) p).1))
    (λ p. none_made parts table row h.1 p)
    (or_cases (part.table == table && part_has part row) (net_has parts table row) has)

own_lawful : (active : OpenTransaction) (ended net : List TableNet) (own : Bool) → IsNet net
    → Lawful (if own then end_with ended None else stay_open active net).transaction
own_lawful active ended net true is = tt
own_lawful active ended net false is = is

refused_lawful : (active : OpenTransaction) (own aborted : Bool) → IsNet active.net
    → Lawful (if own then end_with active.net None else
    (if aborted then record { transaction = state.Aborted; commit = None; net = active.net } else stay_open active
    active.net)).transaction
refused_lawful active true aborted is = tt
refused_lawful active false true is = tt
refused_lawful active false false is = is

after_lawful : (opened : List Table) (commits : List Commit) (active : OpenTransaction) (meaning : Meaning)
    → IsNet active.net → IsNet (net_after opened commits active meaning)
after_lawful opened commits active (meant.Change count part) is =
    further_net (committed_count opened commits active part.table) active.net part is
after_lawful opened commits active (meant.Rows rows) is = is
after_lawful opened commits active (meant.Create name schema) is = is
after_lawful opened commits active (meant.Refused refusal) is = is
after_lawful opened commits active meant.Nothing is = is

behind_lawful : (opened : List Table) (commits : List Commit) (active : OpenTransaction) (asked : Option Asked)
    → IsNet active.net → IsNet (net_behind opened commits active asked)
behind_lawful opened commits active None is = is
behind_lawful opened commits active (Some asked) is = after_lawful opened commits active
    (meaning_in opened commits active asked) is

changed_lawful : (active : OpenTransaction) (asked : Option Asked) (net : List TableNet) (receipt : Option Receipt)
    → IsNet net → Lawful (change_transition active asked net receipt).transaction
changed_lawful active asked net (Some receipt) is = tt
changed_lawful active asked net None is = own_lawful active net net (is_own active asked) is

-- a transaction's net stays a net
moves_lawful : (opened : List Table) (commits : List Commit) (active : OpenTransaction) (asked : Option Asked)
    (reply : Reply) → IsNet active.net
    → Lawful (transition opened commits active asked reply).transaction
moves_lawful opened commits active asked (told.Created receipt) is = tt
moves_lawful opened commits active asked (told.Changed count receipt) is =
    changed_lawful active asked (net_behind opened commits active asked) receipt
    (behind_lawful opened commits active asked is)
moves_lawful opened commits active asked (told.Rows rows) is = own_lawful active active.net active.net
    (is_own active asked) is
moves_lawful opened commits active asked (told.Begun start) is = is
moves_lawful opened commits active asked (told.Committed receipt) is = tt
moves_lawful opened commits active asked told.Ended is = tt
moves_lawful opened commits active asked (told.Checkpointed iteration) is = is
moves_lawful opened commits active asked (told.Refused refusal) is = refused_lawful active (is_own active asked)
    (asks_for (aborts refusal) asked) is

grow_after : (opened : List Table) (commits : List Commit) (active : OpenTransaction) (meaning : Meaning)
    (table row : ℕ) → IsNet active.net → row < committed_count opened commits active table
    → (net_has active.net table row ≡ true) ⊎ (writes_row (write_set opened commits active meaning) table row ≡ true)
    → net_has (net_after opened commits active meaning) table row ≡ true
grow_after opened commits active (meant.Change count part) table row is less either = ⊎_elim
    (λ h. net_stays (committed_count opened commits active part.table) active.net part table row is.0
    (λ same. subst (λ t. row < committed_count opened commits active t) (sym same) less) h)
    (λ h. let p = and_parts (part.table == table)
    (has_id (committed_ids (committed_count opened commits active part.table) (changed_ids part)) row) h in
    subst (λ t. net_has (net_after opened commits active (meant.Change count part)) t row ≡ true)
    (eqb-true part.table table p.0)
    (net_gains (committed_count opened commits active part.table) active.net part row p.1))
    either
grow_after opened commits active (meant.Rows rows) table row is less either =
    ⊎_elim (λ h. h) (λ h. absurd (untouched_row table row h)) either
grow_after opened commits active (meant.Create name schema) table row is less either =
    ⊎_elim (λ h. h) (λ h. absurd (untouched_row table row h)) either
grow_after opened commits active (meant.Refused refusal) table row is less either =
    ⊎_elim (λ h. h) (λ h. absurd (untouched_row table row h)) either
grow_after opened commits active meant.Nothing table row is less either =
    ⊎_elim (λ h. h) (λ h. absurd (untouched_row table row h)) either

pub nets_grow : NetsGrow
nets_grow opened commits active None table row is less either =
    ⊎_elim (λ h. h) (λ h. absurd (untouched_row table row h)) either
nets_grow opened commits active (Some asked) table row is less either = grow_after opened commits active
    (meaning_in opened commits active asked) table row is less either

-- what was made joins the versions
pub answered_has : (seat : Seat) (table row : ℕ) → Has (does.seat_after_reply seat) table row → Has seat table row
answered_has seat table row has = has

abbrev live_with : ℕ → ℕ → Snapshot
live_with number start = record { number = number; start = start; commit = None }

same_live_of : (a a' b b' : ℕ) → a ≡ a' → b ≡ b' → live_with a b ≡ live_with a' b'
same_live_of a a' b b' one two = cc

same_live : (active later : OpenTransaction) → later.number ≡ active.number → later.start ≡ active.start
    → live_with active.number active.start ≡ live_with later.number later.start
same_live active later number start = same_live_of active.number later.number active.start later.start (sym number)
    (sym start)

told_links : (core : Core) (commits : ℕ) (seat : Seat) (active : OpenTransaction) (asked : Asked)
    (touched : Option WriteSet) (past : Option LastTransaction) (later : Transaction) (net : List TableNet)
    (behind : Option WriteSet) (over : Option LastTransaction)
    → commits ≡ length core.now.commits
    → Links (length core.now.commits) seat (session_of (state.Open active) (Some asked) touched past)
    (state.Open active)
    → (in_replies.is_open_transaction later ≡ true → not (asks_for is_rollback (Some asked)) ≡ true)
    → ((live : Snapshot) → seat.live ≡ Some live → LeftBy (Has seat) active behind net later)
    → Links commits (does.seat_after_reply seat) (session_behind later behind over) later
told_links core commits seat active asked touched past state.Outside net behind over same links goes left = tt
told_links core commits seat active asked touched past state.Aborted net behind over same links goes left = tt
told_links core commits seat active asked touched past (state.Open later) net behind over same links goes left =
    let l = left (live_with active.number active.start) (links.1 (goes refl)) in (
      omega (arith, links.0, l.1, same),
      λ on. links.1 (goes refl)
          ∙ ap (λ (x : Snapshot). Some x) (same_live active later l.0 l.1),
    )

told_claims : (core : Core) (now : Machine) (seat : Seat) (live : Snapshot) (table row : ℕ) (active : OpenTransaction)
    (asked : Asked) (later : Transaction) (net : List TableNet) (behind : Option WriteSet) (n : ℕ)
    → now.commits ≡ core.now.commits
    → ClaimsOpen core.opened core.now (Some asked) seat live table row active
    → LeftBy (Has seat) active behind net later → Has seat table row
    → Claims core.opened now (session_behind later behind (last_transaction active.number later None net n))
    (does.seat_after_reply seat) live table row
told_claims core now seat live table row active asked state.Outside net behind n same claims left has =
    (claims.1, sym claims.0, left table row has)
told_claims core now seat live table row active asked state.Aborted net behind n same claims left has =
    (claims.1, sym claims.0, left table row has)
told_claims core now seat live table row active asked (state.Open later) net behind n same claims left has = (
  claims.0,
  left.0 ∙ claims.1,
  claims.2 ∙ sym left.1,
  (λ versions. left.2 table row versions),
  (λ made. absurd (false≢true made)),
  subst (λ list. row < committed_count core.opened list later table) (sym same)
      (subst (λ n. row < row_count (after core.opened core.now.commits n) table) (sym left.1) claims.5),
)

told_kept : (seat : Seat) (active : OpenTransaction) (later : Transaction) (behind : Option WriteSet)
    (over : Option LastTransaction) (table row : ℕ) → Allowed (Has seat) active.start later None
    → has_pending_write table row (session_behind later behind over) ≡ true → Has seat table row
told_kept seat active state.Outside behind over table row allowed has = absurd (false≢true has)
told_kept seat active state.Aborted behind over table row allowed has = absurd (false≢true has)
told_kept seat active (state.Open later) behind over table row allowed has =
    allowed.1 table row (and_parts (net_has later.net table row) _ has).0

-- a session behind a reply that commits nothing
told_own : (core : Core) → Fits core → (entries : List Entry) (now : Machine) (number : ℕ) (active : OpenTransaction)
    (asked : Asked) (touched : Option WriteSet) (past : Option LastTransaction) (seat : Seat)
    → (later : Transaction) (net : List TableNet) (n : ℕ)
    → slice_get core.now.sessions (number - 1) ≡ Some (session_of (state.Open active) (Some asked) touched past)
    → slice_get core.seats (number - 1) ≡ Some seat → now.commits ≡ core.now.commits
    → (in_replies.is_open_transaction later ≡ true → not (asks_for is_rollback (Some asked)) ≡ true)
    → Lawful later
    → Allowed (Has seat) active.start later None
    → ((live : Snapshot) → seat.live ≡ Some live
    → LeftBy (Has seat) active (write_set_in_flight core.opened core.now.commits (state.Open active) (Some asked)) net
    later)
    → Sits core.opened entries now (slice_set core.seats (number - 1) (does.seat_after_reply seat)) (number - 1)
    (session_behind later (write_set_in_flight core.opened core.now.commits (state.Open active) (Some asked))
    (last_transaction active.number later None net n)) (does.seat_after_reply seat)
told_own core fits entries now number active asked touched past seat later net n at there commits goes lawful allowed
    left =
    let place = number - 1 in
    let behind = write_set_in_flight core.opened core.now.commits (state.Open active) (Some asked) in
    let sits = fits.sit place (session_of (state.Open active) (Some asked) touched past) seat at there in
    record {
      links = told_links core (length now.commits) seat active asked touched past later net behind
          (last_transaction active.number later None net n)
          (ap (λ list. length list) commits) sits.links goes left;
      lawful = lawful;
      kept = λ table row has. told_kept seat active later behind (last_transaction active.number later None net n)
          table row allowed has;
      claimed = λ live table row is has. told_claims core now seat live table row active asked later net behind n
          commits (sits.claimed live table row is has) (left live is) has;
      free = λ live table row is none has. subst
          (λ list. Alone list (slice_set core.seats place (does.seat_after_reply seat)) place live.start table row)
          (sym commits)
          (alone_but core.now.commits core.seats place live.start table row (does.seat_after_reply seat)
          (sits.free live table row is none has));
      quiet = λ closed asks. absurd (true≢false asks);
      found = λ refusal is. cc;
    }

-- a session that is over behind a reply, whose seat has no snapshot
closed_so : (core : Core) (entries : List Entry) (now : Machine) (place : ℕ) (seat : Seat) (later : Transaction)
    → Links (length now.commits) (does.seat_after_reply seat) (session_behind later None None) later → Lawful later
    → ((table row : ℕ) → has_pending_write table row (session_behind later None None) ≡ true
    → Has (does.seat_after_reply seat) table row)
    → seat.live ≡ None
    → Sits core.opened entries now (slice_set core.seats place (does.seat_after_reply seat)) place
    (session_behind later None None) (does.seat_after_reply seat)
closed_so core entries now place seat later links lawful kept none = record {
  links = links;
  lawful = lawful;
  kept = kept;
  claimed = λ live table row is has. absurd (not_there live (sym none ∙ is));
  free = λ live table row is un has. absurd (not_there live (sym none ∙ is));
  quiet = λ off asks. none;
  found = λ refusal is. cc;
}

closed_own : (core : Core) (entries : List Entry) (now : Machine) (place : ℕ) (seat : Seat) (later : Transaction)
    → in_replies.is_open_transaction later ≡ false → seat.live ≡ None
    → Sits core.opened entries now (slice_set core.seats place (does.seat_after_reply seat)) place
    (session_behind later None None) (does.seat_after_reply seat)
closed_own core entries now place seat (state.Open active) closed none = absurd (true≢false closed)
closed_own core entries now place seat state.Outside closed none =
    closed_so core entries now place seat state.Outside tt tt (λ table row has. absurd (false≢true has)) none
closed_own core entries now place seat state.Aborted closed none =
    closed_so core entries now place seat state.Aborted tt tt (λ table row has. absurd (false≢true has)) none

pub rolled_back : (core : Core) (active : OpenTransaction) (asked : Asked) (reply : Reply)
    → asks_for is_rollback (Some asked) ≡ true
    → may_answer core.opened core.now.commits (state.Open active) asked reply ≡ true → is_ended reply ≡ true
rolled_back core active Unread reply is e = absurd (false≢true is)
rolled_back core active (Bad at) reply is e = absurd (false≢true is)
rolled_back core active (Good statement) reply is e = rollback_ends core.opened core.now.commits active statement
    (kind_of statement) reply is e

ended_closes : (opened : List Table) (commits : List Commit) (active : OpenTransaction) (asked : Option Asked)
    (reply : Reply) → is_ended reply ≡ true
    → in_replies.is_open_transaction (transition opened commits active asked reply).transaction ≡ false
ended_closes opened commits active asked told.Ended e = refl
ended_closes opened commits active asked other e = absurd (false≢true e)

-- a reply that leaves the transaction open answers no ROLLBACK
pub open_goes : (core : Core) (active : OpenTransaction) (asked : Asked) (reply : Reply)
    → may_answer core.opened core.now.commits (state.Open active) asked reply ≡ true
    → in_replies.is_open_transaction
    (transition core.opened core.now.commits active (Some asked) reply).transaction ≡ true
    → not (asks_for is_rollback (Some asked)) ≡ true
open_goes core active asked reply may on = ⊎_elim
    (λ rolls. absurd
    (true≢false
    (sym on ∙ ended_closes core.opened core.now.commits active (Some asked) reply
    (rolled_back core active asked reply rolls may))))
    (λ off. ap not off)
    (cases_Bool (asks_for is_rollback (Some asked)))

own_nothing : (active : OpenTransaction) (net ended : List TableNet) (own : Bool)
    → (if own then end_with ended None else stay_open active net).commit ≡ None
own_nothing active net ended true = refl
own_nothing active net ended false = refl

refused_nothing : (active : OpenTransaction) (own aborted : Bool)
    → (if own then end_with active.net None else
    (if aborted then record { transaction = state.Aborted; commit = None; net = active.net } else stay_open active
    active.net)).commit ≡ None
refused_nothing active true aborted = refl
refused_nothing active false true = refl
refused_nothing active false false = refl

-- a reply without a receipt commits nothing
no_commit : (opened : List Table) (commits : List Commit) (active : OpenTransaction) (asked : Option Asked)
    (reply : Reply) → is_commit reply ≡ false
    → (transition opened commits active asked reply).commit ≡ None
no_commit opened commits active asked (told.Created receipt) plain = absurd (true≢false plain)
no_commit opened commits active asked (told.Changed count (Some receipt)) plain = absurd (true≢false plain)
no_commit opened commits active asked (told.Changed count None) plain =
    own_nothing active (net_behind opened commits active asked) (net_behind opened commits active asked)
    (is_own active asked)
no_commit opened commits active asked (told.Rows rows) plain = own_nothing active active.net active.net
    (is_own active asked)
no_commit opened commits active asked (told.Begun start) plain = refl
no_commit opened commits active asked (told.Committed receipt) plain = absurd (true≢false plain)
no_commit opened commits active asked told.Ended plain = refl
no_commit opened commits active asked (told.Checkpointed iteration) plain = refl
no_commit opened commits active asked (told.Refused refusal) plain = refused_nothing active (is_own active asked)
    (asks_for (aborts refusal) asked)

-- where the versions since the Call have all rows that a statement changes, the seat has them
whole_has : (seat : Seat) (writes : Option WriteSet) → in_changes.has_whole_change writes seat ≡ true
    → (table row : ℕ) → writes_row writes table row ≡ true → Has seat table row
whole_has seat None all table row has = absurd (false≢true has)
whole_has seat (Some set) all table row has =
    let h = and_parts (set.table == table) (has_id set.ids row) has in
    subst (λ t. Has seat t row) (eqb-true set.table table h.0)
    (made_has seat set.table row (each_id (net_has seat.made set.table) set.ids row all h.1))

-- the rows of the net behind a change are those of the seat
change_behind : (core : Core) (active : OpenTransaction) (asked : Asked) (seat : Seat) → Rows (Has seat) active.net
    → in_changes.has_whole_change (write_set_in_flight core.opened core.now.commits (state.Open active) (Some asked))
    seat ≡ true
    → Rows (Has seat) (net_behind core.opened core.now.commits active (Some asked))
change_behind core active asked seat rows all =
    after_rows (Has seat) core.opened core.now.commits active (meaning_in core.opened core.now.commits active asked)
    rows
    (whole_has seat (write_set_in_flight core.opened core.now.commits (state.Open active) (Some asked)) all)

behind_of : (core : Core) (active : OpenTransaction) (asked : Asked) (touched : Option WriteSet)
    (past : Option LastTransaction) (seat : Seat) (reply : Reply) → Rows (Has seat) active.net
    → in_replies.suits_versions core (session_of (state.Open active) (Some asked) touched past) seat reply ≡ true
    → Behind (Has seat) core.opened core.now.commits active (Some asked) reply
behind_of core active asked touched past seat (told.Changed count receipt) rows fits =
    change_behind core active asked seat rows fits
behind_of core active asked touched past seat (told.Created receipt) rows fits = tt
behind_of core active asked touched past seat (told.Rows list) rows fits = tt
behind_of core active asked touched past seat (told.Begun start) rows fits = tt
behind_of core active asked touched past seat (told.Committed receipt) rows fits = tt
behind_of core active asked touched past seat told.Ended rows fits = tt
behind_of core active asked touched past seat (told.Checkpointed iteration) rows fits = tt
behind_of core active asked touched past seat (told.Refused refusal) rows fits = tt

-- what a reply may leave and commit has rows of the seat
pub told_allowed : (core : Core) → Fits core
    → (number : ℕ) (active : OpenTransaction) (asked : Asked) (touched : Option WriteSet)
    (past : Option LastTransaction) (seat : Seat) (reply : Reply)
    → slice_get core.now.sessions (number - 1) ≡ Some (session_of (state.Open active) (Some asked) touched past)
    → slice_get core.seats (number - 1) ≡ Some seat
    → may_answer core.opened core.now.commits (state.Open active) asked reply ≡ true
    → in_replies.suits_versions core (session_of (state.Open active) (Some asked) touched past) seat reply ≡ true
    → Allows (Has seat) active.start (transition core.opened core.now.commits active (Some asked) reply)
told_allowed core fits number active asked touched past seat reply at there answer made = ⊎_elim
    (λ rolls. ended_allows (Has seat) core.opened core.now.commits active (Some asked) reply
    (rolled_back core active asked reply rolls answer))
    (λ off.
    let rows : Rows (Has seat) active.net =
    λ table row has.
    (fits.sit (number - 1) (session_of (state.Open active) (Some asked) touched past) seat at there).kept table
    row
    (and_from _ _ has (ap not off)) in
    move_allows (Has seat) core.opened core.now.commits active (Some asked) reply rows
    (behind_of core active asked touched past seat reply rows made))
    (cases_Bool (asks_for is_rollback (Some asked)))

-- what a seat has is known by the net before, or the call in flight; where no row was changed since the call, by the
-- net
pub told_left : NetsGrow → (core : Core) → Fits core
    → (number : ℕ) (active : OpenTransaction) (asked : Asked) (touched : Option WriteSet)
    (past : Option LastTransaction) (seat : Seat) (reply : Reply) (live : Snapshot)
    → slice_get core.now.sessions (number - 1) ≡ Some (session_of (state.Open active) (Some asked) touched past)
    → slice_get core.seats (number - 1) ≡ Some seat → seat.live ≡ Some live
    → (is_changed_reply reply
    || (not (in_replies.is_open_transaction
    (transition core.opened core.now.commits active (Some asked) reply).transaction)
    || in_changes.has_no_change seat)) ≡ true
    → LeftBy (Has seat) active (write_set_in_flight core.opened core.now.commits (state.Open active) (Some asked))
    (transition core.opened core.now.commits active (Some asked) reply).net
    (transition core.opened core.now.commits active (Some asked) reply).transaction
told_left grow core fits number active asked touched past seat reply live at there is quiet =
    let sits = fits.sit (number - 1) (session_of (state.Open active) (Some asked) touched past) seat at there in
    moves_left (Has seat) core.opened core.now.commits active (Some asked) reply (in_changes.has_no_change seat)
    (λ table row has either. grow core.opened core.now.commits active (Some asked) table row sits.lawful
    (sits.claimed live table row is has).5 either)
    (λ table row has. ⊎_elim
    (λ made. inr ((sits.claimed live table row is has).4 made))
    (λ versions. inl ((sits.claimed live table row is has).3 versions))
    (has_parts seat table row has))
    (λ none table row has. ⊎_elim
    (λ made. absurd (none_made seat.made table row none made))
    (λ versions. (sits.claimed live table row is has).3 versions)
    (has_parts seat table row has))
    quiet

leaves_closed : (reply : Reply) → in_replies.is_open_transaction (after_aborted reply) ≡ false
leaves_closed told.Ended = refl
leaves_closed other = refl

pub leaves_as : (core : Core) (active : OpenTransaction) (asked : Asked) (touched : Option WriteSet)
    (past : Option LastTransaction) (seat : Seat) (reply : Reply)
    → (is_changed_reply reply
    || (not (in_replies.leaves_open core (session_of (state.Open active) (Some asked) touched past) reply)
    || in_changes.has_no_change seat)) ≡ true
    → (is_changed_reply reply
    || (not (in_replies.is_open_transaction
    (transition core.opened core.now.commits active (Some asked) reply).transaction)
    || in_changes.has_no_change seat)) ≡ true
leaves_as core active asked touched past seat reply quiet = quiet

pub next_reply : (core : Core) (number : ℕ) (reply : Reply) (session : Session)
    → session_at core.now.sessions number ≡ Some session
    → after_reply core.opened core.now number session reply ≡ next core.opened core.now (history.Reply number reply)
next_reply core number reply session is =
    sym (ap (λ found. elim found as
    (λ x. Machine) [ None ↦ core.now | Some before ↦ after_reply core.opened core.now number before reply ]) is)

-- one session is answered, and nothing is committed
reply_moved : (core : Core) → Fits core → (number : ℕ) (reply : Reply) (session session' : Session) (seat : Seat)
    (now : Machine) → 0 < number
    → slice_get core.now.sessions (number - 1) ≡ Some session → slice_get core.seats (number - 1) ≡ Some seat
    → now ≡ next core.opened core.now (history.Reply number reply)
    → now.commits ≡ core.now.commits → now.sessions ≡ slice_set core.now.sessions (number - 1) session'
    → now.begun ≡ core.now.begun
    → Sits core.opened (core.entries ++ history.Reply number reply ∷ []) now
    (slice_set core.seats (number - 1) (does.seat_after_reply seat)) (number - 1) session'
    (does.seat_after_reply seat)
    → is_step core.opened core.entries core.now (history.Reply number reply) ≡ true
    → stands_well core (core.entries ++ history.Reply number reply ∷ []) ≡ true
    → Fits (core_with core (core.entries ++ history.Reply number reply ∷ []) now
    (slice_set core.seats (number - 1) (does.seat_after_reply seat)))
reply_moved core fits number reply session session' seat now above at there is commits sessions begun own step well =
    let entry = history.Reply number reply in
    let new = does.seat_after_reply seat in
    stays core (core.entries ++ entry ∷ []) now (slice_set core.seats (number - 1) new) (number - 1) session' new fits
    (entry_moved core fits number entry 0 session session' seat new above at there (λ k apart. refl)
    (conflict_free core fits (number - 1) session seat new at there (λ table row n w. w)) now commits sessions own)
    (is ∙ now_more core fits entry) (steps_more core fits entry step) well
    (subst (λ n. n ≤ MAX_TRANSACTIONS) (sym begun) fits.numbers)
    (set_length core.seats (number - 1) new
    ∙ (fits.even
    ∙ (sym (set_length core.now.sessions (number - 1) session') ∙ ap (λ list. length list) (sym sessions))))
    (set_length core.seats (number - 1) new ∙ fits.count)

reply_open : NetsGrow → (core : Core) → Fits core → (number : ℕ) (reply : Reply) (transaction : Transaction)
    (asked : Asked) (touched : Option WriteSet) (past : Option LastTransaction) (seat : Seat) → 0 < number
    → session_at core.now.sessions number ≡ Some (session_of transaction (Some asked) touched past)
    → slice_get core.now.sessions (number - 1) ≡ Some (session_of transaction (Some asked) touched past)
    → slice_get core.seats (number - 1) ≡ Some seat
    → is_commit reply ≡ false
    → may_answer core.opened core.now.commits transaction asked reply ≡ true
    → in_replies.suits_versions core (session_of transaction (Some asked) touched past) seat reply ≡ true
    → is_step core.opened core.entries core.now (history.Reply number reply) ≡ true
    → stands_well core (core.entries ++ history.Reply number reply ∷ []) ≡ true
    → Fits (core_with core (core.entries ++ history.Reply number reply ∷ [])
    (after_reply core.opened core.now number (session_of transaction (Some asked) touched past) reply)
    (slice_set core.seats (number - 1) (does.seat_after_reply seat)))
reply_open grow core fits number reply state.Outside asked touched past seat above is at there plain answer made step
    well =
    let session = session_of state.Outside (Some asked) touched past in
    let now = after_reply core.opened core.now number session reply in
    reply_moved core fits number reply session (session_behind state.Outside None None) seat now above at there
    (next_reply core number reply session is) refl refl refl
    (closed_own core (core.entries ++ history.Reply number reply ∷ []) now (number - 1) seat state.Outside refl
    ((fits.sit (number - 1) session seat at there).quiet refl refl)) step well
reply_open grow core fits number reply state.Aborted asked touched past seat above is at there plain answer made step
    well =
    let session = session_of state.Aborted (Some asked) touched past in
    let now = after_reply core.opened core.now number session reply in
    reply_moved core fits number reply session (session_behind (after_aborted reply) None None) seat now above at
    there (next_reply core number reply session is) refl refl refl
    (closed_own core (core.entries ++ history.Reply number reply ∷ []) now (number - 1) seat (after_aborted reply)
    (leaves_closed reply)
    ((fits.sit (number - 1) session seat at there).quiet refl refl)) step well
reply_open grow core fits number reply (state.Open active) asked touched past seat above is at there plain answer made
    step well =
    let session = session_of (state.Open active) (Some asked) touched past in
    let now = after_reply core.opened core.now number session reply in
    let move = transition core.opened core.now.commits active (Some asked) reply in
    let behind = write_set_in_flight core.opened core.now.commits (state.Open active) (Some asked) in
    let n = length core.now.commits in
    let none = no_commit core.opened core.now.commits active (Some asked) reply plain in
    let commits : now.commits ≡ core.now.commits = ap (λ commit. core.now.commits ++ option_to_list commit) none
    ∙ append-nil core.now.commits in
    reply_moved core fits number reply session
    (session_behind move.transaction behind (last_transaction active.number move.transaction move.commit move.net n))
    seat now above at there
    (next_reply core number reply session is) commits refl refl
    (subst (λ commit. Sits core.opened (core.entries ++ history.Reply number reply ∷ []) now
    (slice_set core.seats (number - 1) (does.seat_after_reply seat)) (number - 1)
    (session_behind move.transaction behind (last_transaction active.number move.transaction commit move.net n))
    (does.seat_after_reply seat)) (sym none)
    (told_own core fits (core.entries ++ history.Reply number reply ∷ []) now number active asked touched past seat
    move.transaction move.net n at there commits
    (open_goes core active asked reply answer)
    (moves_lawful core.opened core.now.commits active (Some asked) reply
    (fits.sit (number - 1) session seat at there).lawful)
    (subst (λ commit. Allowed (Has seat) active.start move.transaction commit) none
    (told_allowed core fits number active asked touched past seat reply at there answer made))
    (λ live here. told_left grow core fits number active asked touched past seat reply live at there here
    (quiet_of core session seat reply made)))) step well

-- a Reply keeps what fits
reply_found : NetsGrow → (core : Core) → Fits core
    → (number : ℕ) (reply : Reply) (transaction : Transaction) (asked : Option Asked) (touched : Option WriteSet)
    (past : Option LastTransaction) (seat : Seat) → 0 < number
    → session_at core.now.sessions number ≡ Some (session_of transaction asked touched past)
    → slice_get core.now.sessions (number - 1) ≡ Some (session_of transaction asked touched past)
    → slice_get core.seats (number - 1) ≡ Some seat
    → may.may_reply core reply (session_of transaction asked touched past) seat ≡ true
    → is_step core.opened core.entries core.now (history.Reply number reply) ≡ true
    → stands_well core (core.entries ++ history.Reply number reply ∷ []) ≡ true
    → Fits (core_with core (core.entries ++ history.Reply number reply ∷ [])
    (after_reply core.opened core.now number (session_of transaction asked touched past) reply)
    (slice_set core.seats (number - 1) (does.seat_after_reply seat)))
reply_found grow core fits number reply transaction None touched past seat above is at there passes step well =
    absurd (false≢true
    (and_parts (not (in_commits.is_committing seat)) false (and_parts (not (is_commit reply)) _ passes).1).1)
reply_found grow core fits number reply transaction (Some asked) touched past seat above is at there passes step
    well =
    let session = session_of transaction (Some asked) touched past in
    let h = and_parts (not (is_commit reply)) _ passes in
    let k = (and_parts (not (in_commits.is_committing seat)) (in_replies.may_end_call core reply session seat) h.1).1
    in
    let m = and_parts (may_answer core.opened core.now.commits transaction asked reply) _ k in
    reply_open grow core fits number reply transaction asked touched past seat above is at there
    (not-true (is_commit reply) h.0)
    m.0 (and_parts (in_replies.suits_findings seat reply) _ m.1).1 step well

pub reply_keeps : NetsGrow → (core : Core) → Fits core → (number : ℕ) (reply : Reply)
    → allows_so core (event.Reply number reply) ≡ true
    → Fits (moved core (event.Reply number reply))
reply_keeps grow core fits number reply allowed =
    let h = and_parts (may.at_session core number (may.may_reply core reply)) _ allowed in
    let f = found core number (may.may_reply core reply) h.0 in
    let s = f.session in
    let entry = history.Reply number reply in
    let step = reply_step core fits number reply (may.may_reply core reply)
    (λ session seat passes.
    (and_parts (not (in_commits.is_committing seat)) _ (and_parts (not (is_commit reply)) _ passes).1).1) h.0 in
    subst (λ now. Fits
    (core_with core (core.entries ++ entry ∷ []) now (does.seats_after core (event.Reply number reply))))
    (next_reply core number reply s f.session_is)
    (subst (λ found. Fits
    (core_with core (core.entries ++ entry ∷ []) (after_reply core.opened core.now number s reply)
    (elim found as (λ x. List Seat) [
      | None ↦ core.seats
      | Some seat ↦ slice_set core.seats (number - 1) (does.seat_after_reply seat)
    ]))) (sym f.seat_is)
    (reply_found grow core fits number reply s.transaction s.asked s.writes s.last f.seat f.above f.session_is
    f.session_there f.seat_there f.passes step h.1))
