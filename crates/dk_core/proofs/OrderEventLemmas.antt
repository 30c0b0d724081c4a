-- Each event keeps that a row that a transaction deleted has no newer version of the transaction.
use Rattle.dk_core.proofs.VersionLemmas.{grown_with}
use Rattle.std.proofs.Common.{◌≡◌, ⊎_elim, ℕ, ◌+◌, ◌-◌, ◌<◌, Bool, true, false, List, [], ◌∷◌, length, Option, Some, None, ap, ◌∙◌, sym, refl, subst, slice_get, inl, inr, ◌⊎◌}
use Rattle.std.specs.Prelude.{◌&&◌, ◌||◌, not, is_none, is_some, ◌==◌, nat_lt, if◌then◌else◌}
use Rattle.std.specs.List.{list_all, filter}
use Rattle.std.proofs.lemmas.Bool.{true≢false, false≢true, and_parts, or_cases, not-true, eqb-true, and_from, or_left, or_right, cases_Bool}
use Rattle.dk_values.specs.declared.value.Value.{Value}
use Rattle.dk_types.specs.declared.net.Commit.{Commit}
use Rattle.dk_types.specs.declared.net.TableNet.{TableNet}
use Rattle.dk_types.specs.declared.reply.Reply.{Reply}
use Rattle.dk_types.specs.declared.vector.VectorId.{VectorId}
use Rattle.dk_si.specs.declared.database.Table.{Table}
use Rattle.dk_si.specs.declared.history.Asked.{Asked}
use Rattle.dk_si.specs.declared.limits.TheConstants.{SESSIONS}
use Rattle.dk_si.specs.declared.machine.LastTransaction.{LastTransaction}
use Rattle.dk_si.specs.declared.machine.OpenTransaction.{OpenTransaction}
use Rattle.dk_si.specs.declared.machine.Session.{Session}
use Rattle.dk_si.specs.declared.machine.Transaction.{Transaction}
use Rattle.dk_si.specs.declared.machine.WriteSet.{WriteSet}
use Rattle.dk_si.specs.Database.{after, view}
use Rattle.dk_si.specs.HeldRows.{is_rollback, writes_row}
use Rattle.dk_si.specs.Machine.{idle, after_aborted, session_behind, transition, session_at, committed_count, meaning_in, next, changed_ids, is_own, aborts, stay_open, end_with, change_transition, net_after, net_behind, write_set, write_set_in_flight, last_transaction, asks_for}
use Rattle.dk_si.specs.Nets.{net_has, part_has, has_id, merged_net}
use Rattle.dk_si.proofs.PlaceLemmas.{same_copies}
use Rattle.dk_si.proofs.TransitionLemmas.{session_of}
use Rattle.dk_core.specs.declared.event.Event.{Event}
use Rattle.dk_core.specs.declared.seat.Seat.{Seat}
use Rattle.dk_core.specs.Changes.{is_fresh_part, are_fresh_rows, is_meant, is_part_of, has_update, has_no_change}
use Rattle.dk_core.specs.Commits.{may_append, may_adopt, may_commit, may_point, is_committing}
use Rattle.dk_core.specs.Core.{Core, no_seat, first_core, seat_at, unstamped, next_snapshot, next_receipt}
use Rattle.dk_core.specs.Entries.{entry_of, with_entry, entries_after, state_with}
use Rattle.dk_core.specs.Findings.{is_full, spent_numbers}
use Rattle.dk_core.specs.Laws.{core_after, all_allowed, OrderedOverEveryList}
use Rattle.dk_core.specs.Versions.{is_deleted_by, is_ordered}
use Rattle.dk_core.proofs.Invariant.{with_change, Fits, core_with, moved}
use Rattle.dk_core.proofs.ChangeLemmas.{of_change, part_ids, part_below, part_writes, in_ids}
use Rattle.dk_core.proofs.LegalLemmas.{Sound, step_keeps, first_sound}
use Rattle.dk_core.proofs.PointLemmas.{Points, commit_found}
use Rattle.dk_core.proofs.SeatLemmas.{goes_uncommitted}
use Rattle.dk_core.proofs.StepLemmas.{Found, found, made_has, not_so}
use Rattle.dk_types.specs.Nets.{IsNet}
use Rattle.dk_syntax.specs.declared.statement.Statement.{Statement}
use Rattle.dk_types.specs.declared.reply.Receipt.{Receipt}
use Rattle.dk_si.specs.declared.history.Asked.TheVariants.{Unread, Bad, Good}
use Rattle.dk_si.specs.declared.meaning.Meaning.{Meaning}
use Rattle.dk_si.specs.Meaning.{meaning}
use Rattle.dk_si.specs.MayAnswer.{may_answer}
use Rattle.dk_si.specs.LawfulCalls.{is_lawful_call}
use Rattle.dk_si.specs.ReplyTests.{is_commit, is_ended}
use Rattle.dk_si.specs.RowLaws.{table_has_row}
use Rattle.dk_si.proofs.PresentLemmas.{changed_rows_are_there}
use Rattle.dk_core.specs.Replies.{is_open_transaction, leaves_open, suits_findings, suits_versions, may_end_call}
use Rattle.dk_core.proofs.CallLemmas.{next_call, next_begun}
use Rattle.dk_core.proofs.DeleteLemmas.{delete_stays, delete_gains, deleted_is_gone}
use Rattle.dk_core.proofs.ReplyLemmas.{is_changed_reply, quiet_of, rolled_back, none_made, next_reply}
use Rattle.dk_core.proofs.VersionLemmas.{begin_change, begin_entry, change_cases}
use Rattle.dk_types.specs.declared.reply.Refusal.TheVariants as refusal
use Rattle.dk_types.specs.declared.reply.Reply.TheVariants as told
use Rattle.dk_si.specs.declared.history.Entry.TheVariants as history
use Rattle.dk_si.specs.declared.machine.Transaction.TheVariants as state
use Rattle.dk_core.specs.declared.event.Done.TheVariants as done
use Rattle.dk_core.specs.declared.event.Event.TheVariants as event
use Rattle.dk_core.specs.Allows as may
use Rattle.dk_core.specs.Step as does
use Rattle.dk_si.specs.declared.meaning.Meaning.TheVariants as meant
use Rattle.dk_core.proofs.OrderLemmas.{meant_deletes, KnownBy, Deleted, with_seat_deleted, own_session, set_session, idle_known, same_known, deleted_has, deleted_parts, sub_ordered, tail_deleted, tail_ordered, take_deleted, take_ordered}

-- what a statement updates or deletes is among the rows that its part names
kept_by : (keep : ℕ → Bool) (id : ℕ) (ids : List ℕ) (row : ℕ) (b : Bool)
    → (has_id (filter keep ids) row ≡ true → has_id ids row ≡ true)
    → has_id (if b then id ∷ filter keep ids else filter keep ids) row ≡ true → has_id (id ∷ ids) row ≡ true
kept_by keep id ids row true rest has = ⊎_elim
    (λ h. or_left (id == row) _ h)
    (λ h. or_right (id == row) _ (rest h))
    (or_cases (id == row) (has_id (filter keep ids) row) has)
kept_by keep id ids row false rest has = or_right (id == row) _ (rest has)

any_kept : (keep : ℕ → Bool) (ids : List ℕ) (row : ℕ) → has_id (filter keep ids) row ≡ true → has_id ids row ≡ true
any_kept keep [] row has = has
any_kept keep (id ∷ ids) row has = kept_by keep id ids row (keep id) (any_kept keep ids row) has

-- a row of a part of a statement's change is there in what its transaction sees
part_there : (tables : List Table) (opened : List Table) (commits : List Commit) (active : OpenTransaction)
    (statement : Statement) (part : TableNet) (row : ℕ)
    → (meaning' : Meaning) → meaning tables statement ≡ meaning'
    → writes_row (write_set opened commits active meaning') part.table row ≡ true
    → table_has_row tables part.table row ≡ true
part_there tables opened commits active statement part row (meant.Change count whole) is has =
    let h = and_parts (whole.table == part.table) _ has in
    subst (λ t. table_has_row tables t row ≡ true) (eqb-true whole.table part.table h.0)
    (changed_rows_are_there tables statement count whole is row
    (any_kept (λ id. nat_lt id (committed_count opened commits active whole.table)) (changed_ids whole) row h.1))
part_there tables opened commits active statement part row (meant.Rows rows) is has = absurd (false≢true has)
part_there tables opened commits active statement part row (meant.Create name schema) is has = absurd (false≢true has)
part_there tables opened commits active statement part row (meant.Refused refusal) is has = absurd (false≢true has)
part_there tables opened commits active statement part row meant.Nothing is has = absurd (false≢true has)

asked_there : (core : Core) (active : OpenTransaction) (asked : Asked) (part : TableNet) (row : ℕ)
    → writes_row
    (write_set core.opened core.now.commits active (meaning_in core.opened core.now.commits active asked)) part.table
    row ≡ true
    → table_has_row (view core.opened core.now.commits active.start active.net) part.table row ≡ true
asked_there core active Unread part row has = absurd (false≢true has)
asked_there core active (Bad at) part row has = absurd (false≢true has)
asked_there core active (Good statement) part row has =
    part_there (view core.opened core.now.commits active.start active.net) core.opened core.now.commits active
    statement part row
    (meaning (view core.opened core.now.commits active.start active.net) statement) refl has

-- a part of a change deletes what the statement deletes
part_deletes : (n : ℕ) (made : List TableNet) (part : TableNet) (meaning : Meaning) (table row : ℕ)
    → is_fresh_part n made meaning part ≡ true
    → (part.table == table && has_id part.deletes row) ≡ true → meant_deletes meaning table row ≡ true
part_deletes n made part (meant.Change count whole) table row is has =
    let p = and_parts (part.table == table) (has_id part.deletes row) has in
    let h = and_parts (are_fresh_rows n made part) (is_part_of whole part) is in
    let t = and_parts (part.table == whole.table) _ h.1 in
    let u = and_parts (list_all (has_update whole.updates) part.updates)
    (list_all (has_id whole.deletes) part.deletes) t.1 in
    and_from _ _ (subst (λ m. (m == table) ≡ true) (eqb-true part.table whole.table t.0) p.0)
    (in_ids (has_id whole.deletes) part.deletes row u.1 p.1)
part_deletes n made part (meant.Rows rows) table row is has =
    absurd (false≢true (and_parts (are_fresh_rows n made part) false is).1)
part_deletes n made part (meant.Create name schema) table row is has =
    absurd (false≢true (and_parts (are_fresh_rows n made part) false is).1)
part_deletes n made part (meant.Refused refusal) table row is has =
    absurd (false≢true (and_parts (are_fresh_rows n made part) false is).1)
part_deletes n made part meant.Nothing table row is has =
    absurd (false≢true (and_parts (are_fresh_rows n made part) false is).1)

-- a Change's rows are deleted by no older version of its transaction
change_ordered : (core : Core) → (seat : Seat) (active : OpenTransaction) (asked : Asked) (part : TableNet)
    (table row : ℕ) → IsNet active.net
    → is_fresh_part (committed_count core.opened core.now.commits active part.table) seat.made
    (meaning_in core.opened core.now.commits active asked) part ≡ true
    → ((table row : ℕ) → is_deleted_by table row seat.versions ≡ true → is_deleted_by table row active.net ≡ true)
    → is_ordered table row (unstamped seat) ≡ true → is_ordered table row (part ∷ unstamped seat) ≡ true
change_ordered core seat active asked part table row net fresh known ordered =
    let n = committed_count core.opened core.now.commits active part.table in
    let meaning = meaning_in core.opened core.now.commits active asked in
    and_from _ _
    (ap not (not_so (is_deleted_by table row (unstamped seat) && (part.table == table && part_has part row)) (λ b.
    let p = and_parts (is_deleted_by table row (unstamped seat)) (part.table == table && part_has part row) b in
    let q = and_parts (part.table == table) (part_has part row) p.1 in
    let t = eqb-true part.table table q.0 in
    ⊎_elim
    (λ made. let fine = (and_parts (are_fresh_rows n seat.made part) (is_meant meaning part) fresh).0 in
    let clear = (and_parts (nat_lt row n) (not (net_has seat.made part.table row))
    (in_ids (λ id. nat_lt id n && not (net_has seat.made part.table id)) (changed_ids part) row fine
    (part_ids part row q.1))).1 in
    true≢false (sym (subst (λ m. net_has seat.made m row ≡ true) (sym t) (deleted_has seat.made table row made))
    ∙ not-true (net_has seat.made part.table row) clear))
    (λ versions. true≢false
    (sym (asked_there core active asked part row (part_writes core active seat.made part meaning row fresh q.1))
    ∙ deleted_is_gone active.net (after core.opened core.now.commits active.start) part.table row net.0
    (part_below core active seat.made part meaning row fresh q.1)
    (subst (λ m. is_deleted_by m row active.net ≡ true) (sym t) (known table row versions))))
    (deleted_parts table row seat.made seat.versions p.0))))
    ordered

-- the seat behind a Change
change_deleted : (core : Core) → Fits core → Deleted core → (number : ℕ) (at : VectorId) (part : TableNet)
    (f : Found core number (may.may_change core at part))
    → ((table row : ℕ) → is_ordered table row (unstamped (does.seat_after_change core number part f.seat)) ≡ true)
    × KnownBy core.opened core.now.commits (does.seat_after_change core number part f.seat) f.session.asked
    f.session.transaction
change_deleted core fits deleted number at part f =
    let seat = f.seat in
    let there = f.seat_there in
    of_change core number at part f
    (λ transaction asked.
    ((table row : ℕ) → is_ordered table row (unstamped (does.seat_after_change core number part seat)) ≡ true)
    × KnownBy core.opened core.now.commits (does.seat_after_change core number part seat) asked transaction)
    (λ active asked here kind fresh goes.
    let n = committed_count core.opened core.now.commits active part.table in
    let meaning = meaning_in core.opened core.now.commits active asked in
    let session = session_of (state.Open active) (Some asked) f.session.writes f.session.last in
    let known = deleted.known (number - 1) session seat here there in
    let ordered : (table row : ℕ) → is_ordered table row (unstamped seat) ≡ true =
    λ table row. deleted.ordered (number - 1) seat table row there in
    change_cases
    (λ new. ((table row : ℕ) → is_ordered table row (unstamped new) ≡ true) × KnownBy core.opened core.now.commits new
    (Some asked) (state.Open active)) core number part seat
    (ordered, known) (
      (λ table row. change_ordered core seat active asked part table row
          (fits.sit (number - 1) session seat here there).lawful fresh (known goes).0 (ordered table row)),
      (λ on. (
        (known goes).0,
        (λ table row gone. ⊎_elim
            (λ p. part_deletes n seat.made part meaning table row fresh p)
            (λ p. (known goes).1 table row p)
            (or_cases (part.table == table && has_id part.deletes row) (is_deleted_by table row seat.made) gone)),
      )),
    )
    (λ refusal. (ordered, known)))

-- the seat behind an Append or an Adopt
appended_ordered : (own table row : ℕ) (rows : List (List Value)) (parts : List TableNet)
    → is_ordered table row parts ≡ true
    → is_ordered table row (does.appended_part own rows ∷ parts) ≡ true
appended_ordered own table row rows parts ordered =
    and_from _ _
    (ap not (not_so (is_deleted_by table row parts && (own == table && false)) (λ b.
    false≢true
    (and_parts (own == table) false (and_parts (is_deleted_by table row parts) (own == table && false) b).1).1)))
    ordered

placing_known : (opened : List Table) (commits : List Commit) (seat : Seat) (own : ℕ) (rows : List (List Value))
    (asked : Option Asked) (transaction : Transaction)
    → KnownBy opened commits seat asked transaction
    → KnownBy opened commits (does.seat_after_placing own rows seat) asked transaction
placing_known opened commits seat own rows asked state.Outside known = tt
placing_known opened commits seat own rows asked state.Aborted known = tt
placing_known opened commits seat own rows asked (state.Open active) known = λ goes. (
  (known goes).0,
  (λ table row gone. ⊎_elim
      (λ p. absurd (false≢true (and_parts (own == table) false p).1))
      (λ p. (known goes).1 table row p)
      (or_cases (own == table && false) (is_deleted_by table row seat.made) gone)),
)

-- the seat behind a Call: before it the transaction had made no version since the last one
call_known : (opened : List Table) (commits : List Commit) (seat : Seat) (asked : Asked) (before : Option Asked)
    (transaction : Transaction) → is_none before ≡ true
    → KnownBy opened commits seat before transaction
    → KnownBy opened commits (record seat { found = None }) (Some asked) transaction
call_known opened commits seat asked (Some other) transaction none known = absurd (false≢true none)
call_known opened commits seat asked None state.Outside none known = tt
call_known opened commits seat asked None state.Aborted none known = tt
call_known opened commits seat asked None (state.Open active) none known = λ goes.
    ((known refl).0, (λ table row gone. absurd (false≢true ((known refl).1 table row gone))))

-- what a transaction that stays open deletes, its net deletes
abbrev InDeletes : (ℕ → ℕ → Type 0) → List TableNet → Type 0
InDeletes Q net = (table row : ℕ) → Q table row → is_deleted_by table row net ≡ true

abbrev KeepsDeletes : (ℕ → ℕ → Type 0) → Transaction → Type 0
KeepsDeletes Q (state.Open later) = InDeletes Q later.net
KeepsDeletes Q state.Outside = Unit {0}
KeepsDeletes Q state.Aborted = Unit {0}

own_deletes : (Q : ℕ → ℕ → Type 0) (active : OpenTransaction) (ended net : List TableNet) (own : Bool)
    → (is_open_transaction (if own then end_with ended None else stay_open active net).transaction ≡ true
    → InDeletes Q net)
    → KeepsDeletes Q (if own then end_with ended None else stay_open active net).transaction
own_deletes Q active ended net true inside = tt
own_deletes Q active ended net false inside = inside refl

refused_deletes : (Q : ℕ → ℕ → Type 0) (active : OpenTransaction) (own aborted : Bool)
    → (is_open_transaction
    (if own then end_with active.net None else
    (if aborted then record { transaction = state.Aborted; commit = None; net = active.net } else stay_open active
    active.net)).transaction ≡ true
    → InDeletes Q active.net)
    → KeepsDeletes Q
    (if own then end_with active.net None else
    (if aborted then record { transaction = state.Aborted; commit = None; net = active.net } else stay_open active
    active.net)).transaction
refused_deletes Q active true aborted inside = tt
refused_deletes Q active false true inside = tt
refused_deletes Q active false false inside = inside refl

changed_deletes : (Q : ℕ → ℕ → Type 0) (active : OpenTransaction) (asked : Option Asked) (net : List TableNet)
    (receipt : Option Receipt) → InDeletes Q net
    → KeepsDeletes Q (change_transition active asked net receipt).transaction
changed_deletes Q active asked net (Some receipt) inside = tt
changed_deletes Q active asked net None inside = own_deletes Q active net net (is_own active asked) (λ on. inside)

moves_deletes : (Q : ℕ → ℕ → Type 0) (opened : List Table) (commits : List Commit) (active : OpenTransaction)
    (asked : Option Asked) (reply : Reply)
    → InDeletes Q (net_behind opened commits active asked)
    → (is_changed_reply reply ≡ false
    → is_open_transaction (transition opened commits active asked reply).transaction ≡ true → InDeletes Q active.net)
    → KeepsDeletes Q (transition opened commits active asked reply).transaction
moves_deletes Q opened commits active asked (told.Created receipt) changed other = tt
moves_deletes Q opened commits active asked (told.Changed count receipt) changed other =
    changed_deletes Q active asked (net_behind opened commits active asked) receipt changed
moves_deletes Q opened commits active asked (told.Rows rows) changed other =
    own_deletes Q active active.net active.net (is_own active asked) (other refl)
moves_deletes Q opened commits active asked (told.Begun start) changed other = other refl refl
moves_deletes Q opened commits active asked (told.Committed receipt) changed other = tt
moves_deletes Q opened commits active asked told.Ended changed other = tt
moves_deletes Q opened commits active asked (told.Checkpointed iteration) changed other = other refl refl
moves_deletes Q opened commits active asked (told.Refused refusal) changed other =
    refused_deletes Q active (is_own active asked) (asks_for (aborts refusal) asked) (other refl)

ended_deletes : (Q : ℕ → ℕ → Type 0) (opened : List Table) (commits : List Commit) (active : OpenTransaction)
    (asked : Option Asked) (reply : Reply) → is_ended reply ≡ true
    → KeepsDeletes Q (transition opened commits active asked reply).transaction
ended_deletes Q opened commits active asked told.Ended e = tt
ended_deletes Q opened commits active asked other e = absurd (false≢true e)

-- the net behind a statement deletes what it deleted, and what the statement deletes
behind_stays : (opened : List Table) (commits : List Commit) (active : OpenTransaction) (meaning : Meaning)
    (table row : ℕ) → IsNet active.net
    → is_deleted_by table row active.net ≡ true
    → is_deleted_by table row (net_after opened commits active meaning) ≡ true
behind_stays opened commits active (meant.Change count part) table row net gone =
    delete_stays (committed_count opened commits active part.table) active.net part table row net.0 gone
behind_stays opened commits active other table row net gone = gone

behind_gains : (opened : List Table) (commits : List Commit) (active : OpenTransaction) (meaning : Meaning)
    (table row : ℕ)
    → row < committed_count opened commits active table → meant_deletes meaning table row ≡ true
    → is_deleted_by table row (net_after opened commits active meaning) ≡ true
behind_gains opened commits active (meant.Change count part) table row less gone =
    let p = and_parts (part.table == table) (has_id part.deletes row) gone in
    let t = eqb-true part.table table p.0 in
    subst (λ m. is_deleted_by m row
    (merged_net (committed_count opened commits active part.table) active.net part) ≡ true) t
    (delete_gains (committed_count opened commits active part.table) active.net part row
    (subst (λ m. row < committed_count opened commits active m) (sym t) less) p.1)
behind_gains opened commits active (meant.Rows rows) table row less gone = absurd (false≢true gone)
behind_gains opened commits active (meant.Create name schema) table row less gone = absurd (false≢true gone)
behind_gains opened commits active (meant.Refused refusal) table row less gone = absurd (false≢true gone)
behind_gains opened commits active meant.Nothing table row less gone = absurd (false≢true gone)

-- a transaction that a reply leaves open knows what its versions delete
left_known : (opened : List Table) (commits : List Commit) (seat : Seat) (transaction : Transaction)
    → KeepsDeletes (λ table row. is_deleted_by table row (unstamped seat) ≡ true) transaction
    → KnownBy opened commits (does.seat_after_reply seat) None transaction
left_known opened commits seat state.Outside keeps = tt
left_known opened commits seat state.Aborted keeps = tt
left_known opened commits seat (state.Open later) keeps =
    λ goes. (keeps, (λ table row gone. absurd (false≢true gone)))

aborted_known : (opened : List Table) (commits : List Commit) (seat : Seat) (asked : Option Asked) (reply : Reply)
    → KnownBy opened commits seat asked (after_aborted reply)
aborted_known opened commits seat asked told.Ended = tt
aborted_known opened commits seat asked other = tt

-- where a reply leaves the transaction open and is no Changed, no row was changed since the call
one_of_three : (a b c : Bool) → (a || (not b || c)) ≡ true → a ≡ false → b ≡ true → c ≡ true
one_of_three true b c either plain on = absurd (true≢false plain)
one_of_three false true c either plain on = either
one_of_three false false c either plain on = absurd (false≢true on)

quiet_made : (core : Core) (session : Session) (seat : Seat) (reply : Reply) → is_changed_reply reply ≡ false
    → leaves_open core session reply ≡ true
    → suits_versions core session seat reply ≡ true → has_no_change seat ≡ true
quiet_made core session seat reply plain on suits =
    one_of_three (is_changed_reply reply) (leaves_open core session reply) (has_no_change seat)
    (quiet_of core session seat reply suits) plain on

left_by : (core : Core) → Fits core → Deleted core
    → (number : ℕ) (reply : Reply) (active : OpenTransaction) (asked : Asked) (touched : Option WriteSet)
    (past : Option LastTransaction) (seat : Seat)
    → slice_get core.now.sessions (number - 1) ≡ Some (session_of (state.Open active) (Some asked) touched past)
    → slice_get core.seats (number - 1) ≡ Some seat
    → may_answer core.opened core.now.commits (state.Open active) asked reply ≡ true
    → suits_versions core (session_of (state.Open active) (Some asked) touched past) seat reply ≡ true
    → KeepsDeletes (λ table row. is_deleted_by table row (unstamped seat) ≡ true)
    (transition core.opened core.now.commits active (Some asked) reply).transaction
left_by core fits deleted number reply active asked touched past seat here there answer suits = ⊎_elim
    (λ rolls. ended_deletes (λ table row. is_deleted_by table row (unstamped seat) ≡ true) core.opened
    core.now.commits active (Some asked) reply (rolled_back core active asked reply rolls answer))
    (λ off.
    let session = session_of (state.Open active) (Some asked) touched past in
    let goes = ap not off in
    let known = deleted.known (number - 1) session seat here there goes in
    let sits = fits.sit (number - 1) session seat here there in
    let live = sits.links.1 goes in
    moves_deletes (λ table row. is_deleted_by table row (unstamped seat) ≡ true) core.opened core.now.commits active
    (Some asked) reply
    (λ table row gone. ⊎_elim
    (λ made. behind_gains core.opened core.now.commits active (meaning_in core.opened core.now.commits active asked)
    table row
    (sits.claimed (record { number = active.number; start = active.start; commit = None }) table row live
    (made_has seat table row (deleted_has seat.made table row made))).5
    (known.1 table row made))
    (λ versions. behind_stays core.opened core.now.commits active
    (meaning_in core.opened core.now.commits active asked) table row sits.lawful (known.0 table row versions))
    (deleted_parts table row seat.made seat.versions gone))
    (λ plain on table row gone. ⊎_elim
    (λ made. absurd
    (none_made seat.made table row (quiet_made core session seat reply plain on suits)
    (deleted_has seat.made table row made)))
    (λ versions. known.0 table row versions)
    (deleted_parts table row seat.made seat.versions gone)))
    (cases_Bool (asks_for is_rollback (Some asked)))

-- a reply that is no commit
reply_sessions : (core : Core) → Fits core → Deleted core → (number : ℕ) (reply : Reply) (transaction : Transaction)
    (asked : Option Asked) (touched : Option WriteSet) (past : Option LastTransaction) (seat : Seat)
    → session_at core.now.sessions number ≡ Some (session_of transaction asked touched past)
    → slice_get core.now.sessions (number - 1) ≡ Some (session_of transaction asked touched past)
    → slice_get core.seats (number - 1) ≡ Some seat
    → may_end_call core reply (session_of transaction asked touched past) seat ≡ true
    → (k : ℕ) (s : Session) → slice_get (next core.opened core.now (history.Reply number reply)).sessions k ≡ Some s
    → ((k ≡ number - 1) × KnownBy core.opened (next core.opened core.now (history.Reply number reply)).commits
    (does.seat_after_reply seat) s.asked s.transaction)
    ⊎ ((k ≡ number - 1 → ⊥) × (slice_get core.now.sessions k ≡ Some s))
reply_sessions core fits deleted number reply transaction None touched past seat is here there passes k s at =
    absurd (false≢true passes)
reply_sessions core fits deleted number reply state.Outside (Some asked) touched past seat is here there passes k s
    at =
    let now = next core.opened core.now (history.Reply number reply) in
    set_session core.opened now.commits core.now.sessions now.sessions (number - 1)
    (session_behind state.Outside None None) (does.seat_after_reply seat)
    (ap (λ machine. machine.sessions)
    (sym (next_reply core number reply (session_of state.Outside (Some asked) touched past) is))) tt k s at
reply_sessions core fits deleted number reply state.Aborted (Some asked) touched past seat is here there passes k s
    at =
    let now = next core.opened core.now (history.Reply number reply) in
    set_session core.opened now.commits core.now.sessions now.sessions (number - 1)
    (session_behind (after_aborted reply) None None) (does.seat_after_reply seat)
    (ap (λ machine. machine.sessions)
    (sym (next_reply core number reply (session_of state.Aborted (Some asked) touched past) is)))
    (aborted_known core.opened now.commits (does.seat_after_reply seat) None reply) k s at
reply_sessions core fits deleted number reply (state.Open active) (Some asked) touched past seat is here there passes
    k s at =
    let session = session_of (state.Open active) (Some asked) touched past in
    let now = next core.opened core.now (history.Reply number reply) in
    let move = transition core.opened core.now.commits active (Some asked) reply in
    let behind = session_behind move.transaction
    (write_set_in_flight core.opened core.now.commits (state.Open active) (Some asked))
    (last_transaction active.number move.transaction move.commit move.net (length core.now.commits)) in
    let p = and_parts (may_answer core.opened core.now.commits (state.Open active) asked reply) _ passes in
    let suits = (and_parts (suits_findings seat reply) (suits_versions core session seat reply) p.1).1 in
    set_session core.opened now.commits core.now.sessions now.sessions (number - 1) behind
    (does.seat_after_reply seat)
    (ap (λ machine. machine.sessions) (sym (next_reply core number reply session is)))
    (left_known core.opened now.commits seat move.transaction
    (left_by core fits deleted number reply active asked touched past seat here there p.0 suits)) k s at

-- a session that has made its Point
outside_known : (opened : List Table) (commits : List Commit) (seat : Seat) (asked : Option Asked)
    (transaction : Transaction) → transaction ≡ state.Outside
    → KnownBy opened commits seat asked transaction
outside_known opened commits seat asked transaction is = subst (λ t. KnownBy opened commits seat asked t) (sym is) tt

-- the versions behind a Point are those before it
commit_ordered : (core : Core) (number : ℕ) (reply : Reply) (seat : Seat) → Points core number reply seat
    → (table row : ℕ) → is_ordered table row (unstamped seat) ≡ true
    → is_ordered table row (unstamped (does.seat_after_commit core seat)) ≡ true
commit_ordered core number reply seat p table row ordered =
    subst (λ s. is_ordered table row (unstamped s) ≡ true)
    (sym (ap (λ found. elim found as (λ x. Seat) [
      | None ↦ seat
      | Some live ↦ record
          (does.seat_after_reply seat) { live = Some (record live { commit = Some (length core.now.commits + 1) }) }
    ]) p.has_live))
    ordered

-- the core behind an event that is allowed as a commit of this reply
commit_deleted : (core : Core) → Fits core → Deleted core → (event : Event) (number : ℕ) (reply : Reply)
    (test : Session → Seat → Bool) (also : Bool) → is_commit reply ≡ true
    → entry_of core event ≡ Some (history.Reply number reply)
    → ((session : Session) (seat : Seat) → test session seat ≡ true → may_commit core reply session seat ≡ true)
    → (may.at_session core number test && also) ≡ true
    → Deleted (core_with core (entries_after core event) (state_with core (entry_of core event))
    (with_change core number (does.seat_after_commit core)))
commit_deleted core fits deleted event number reply test also commits entry tells allowed =
    let found = commit_found core fits number reply test also commits tells allowed in
    let seat = found.0.seat in
    let now = state_with core (entry_of core event) in
    let same : now ≡ next core.opened core.now (history.Reply number reply) = ap (λ e. state_with core e) entry in
    with_seat_deleted core fits deleted (entries_after core event) now number seat (does.seat_after_commit core)
    found.0.seat_is (grown_with core (entry_of core event))
    (λ k s at. ⊎_elim
    (λ h. inl
    (h.0, outside_known core.opened now.commits (does.seat_after_commit core seat) s.asked s.transaction h.1))
    (λ h. inr h)
    (found.1.closed k s (subst (λ machine. slice_get machine.sessions k ≡ Some s) same at)))
    (λ table row. commit_ordered core number reply seat found.1 table row
    (deleted.ordered (number - 1) seat table row found.0.seat_there))

begin_deleted : (core : Core) → Fits core → Deleted core
    → (number : ℕ) (f : Found core number may.may_begin) (full : Bool)
    → Deleted
    (core_with core (with_entry core.entries (begin_entry core number full))
    (state_with core (begin_entry core number full))
    (with_change core number (begin_change core full)))
begin_deleted core fits deleted number f true =
    with_seat_deleted core fits deleted core.entries core.now number f.seat
    (λ seat. record seat { found = Some (refusal.Exhausted (spent_numbers core)) }) f.seat_is
    (grown_with core None)
    (own_session core (number - 1) f.session (record f.seat { found = Some (refusal.Exhausted (spent_numbers core)) })
    f.session_there
    (same_known core.opened core.now.commits f.seat
    (record f.seat { found = Some (refusal.Exhausted (spent_numbers core)) }) f.session.asked f.session.transaction
    refl refl
    (deleted.known (number - 1) f.session f.seat f.session_there f.seat_there)))
    (λ table row. deleted.ordered (number - 1) f.seat table row f.seat_there)
begin_deleted core fits deleted number f false =
    let entry = Some (history.Begun number core.now.begun (length core.now.commits)) in
    let now = state_with core entry in
    let new : Seat = record no_seat { live = Some (next_snapshot core.now) } in
    let session : Session =
    record f.session {
      transaction =
          state.Open (record { number = core.now.begun; start = length core.now.commits; net = []; fresh = true });
    } in
    with_seat_deleted core fits deleted (with_entry core.entries entry) now number f.seat
    (λ seat. record no_seat { live = Some (next_snapshot core.now) }) f.seat_is
    (grown_with core entry)
    (set_session core.opened now.commits core.now.sessions now.sessions (number - 1) session new
    (ap (λ machine. machine.sessions)
    (sym (next_begun core number core.now.begun (length core.now.commits) f.session f.session_is)))
    (λ goes. ((λ table row gone. absurd (false≢true gone)), (λ table row gone. absurd (false≢true gone)))))
    (λ table row. refl)

-- an event that makes no entry, behind which the session knows as much
still_deleted : (core : Core) → Fits core → Deleted core
    → (number : ℕ) (session : Session) (seat : Seat) (change : Seat → Seat)
    → seat_at core.seats number ≡ Some seat → slice_get core.now.sessions (number - 1) ≡ Some session
    → KnownBy core.opened core.now.commits (change seat) session.asked session.transaction
    → ((table row : ℕ) → is_ordered table row (unstamped (change seat)) ≡ true)
    → Deleted (core_with core core.entries core.now (with_change core number change))
still_deleted core fits deleted number session seat change is here known ordered =
    with_seat_deleted core fits deleted core.entries core.now number seat change is (grown_with core None)
    (own_session core (number - 1) session (change seat) here known) ordered

placed_deleted : (core : Core) → Fits core → Deleted core → (number table : ℕ) (rows : List (List Value))
    → {test : Session → Seat → Bool} → (f : Found core number test)
    → Deleted (core_with core core.entries core.now (with_change core number (does.seat_after_placing table rows)))
placed_deleted core fits deleted number table rows f =
    still_deleted core fits deleted number f.session f.seat (does.seat_after_placing table rows) f.seat_is
    f.session_there
    (placing_known core.opened core.now.commits f.seat table rows f.session.asked f.session.transaction
    (deleted.known (number - 1) f.session f.seat f.session_there f.seat_there))
    (λ t row. appended_ordered table t row rows (unstamped f.seat)
    (deleted.ordered (number - 1) f.seat t row f.seat_there))

not_going : (b : Bool) (seat : Seat) (session : Session) → (b && not (may.is_active session)) ≡ true
    → may.is_active session ≡ true → ⊥
not_going b seat session goes active =
    true≢false (sym active ∙ not-true (may.is_active session) (and_parts b (not (may.is_active session)) goes).1)

-- each event that is allowed keeps the order
event_deleted : (core : Core) → Fits core → Deleted core → (event : Event) → may.allows_locally core event ≡ true
    → Deleted (moved core event)
event_deleted core fits deleted (event.Call number asked) allowed =
    let f = found core number (may.may_call asked) allowed in
    let now = state_with core (Some (history.Call number asked)) in
    let s = f.session in
    let none = (and_parts (is_none s.asked) _ (and_parts (is_none s.asked && is_lawful_call asked) _ f.passes).0).0 in
    let session : Session = record s { asked = Some asked; last = None } in
    let same = next_call core number asked s f.session_is in
    let commits : now.commits ≡ core.now.commits = ap (λ machine. machine.commits) (sym same) in
    with_seat_deleted core fits deleted (entries_after core (event.Call number asked)) now number f.seat
    (λ seat. record seat { found = None }) f.seat_is
    (grown_with core (Some (history.Call number asked)))
    (set_session core.opened now.commits core.now.sessions now.sessions (number - 1) session
    (record f.seat { found = None })
    (ap (λ machine. machine.sessions) (sym same))
    (subst (λ list. KnownBy core.opened list (record f.seat { found = None }) (Some asked) s.transaction)
    (sym commits)
    (call_known core.opened core.now.commits f.seat asked s.asked s.transaction none
    (deleted.known (number - 1) s f.seat f.session_there f.seat_there))))
    (λ table row. deleted.ordered (number - 1) f.seat table row f.seat_there)
event_deleted core fits deleted (event.Begin number) allowed =
    begin_deleted core fits deleted number (found core number may.may_begin allowed) (is_full core)
event_deleted core fits deleted (event.Change number at part) allowed =
    let f = found core number (may.may_change core at part) allowed in
    let c = change_deleted core fits deleted number at part f in
    still_deleted core fits deleted number f.session f.seat (does.seat_after_change core number part) f.seat_is
    f.session_there c.1 c.0
event_deleted core fits deleted (event.Append number table group first rows) allowed =
    placed_deleted core fits deleted number table rows (found core number (may_append core table group first rows)
    (and_parts (may.at_session core number (may_append core table group first rows)) _ allowed).0)
event_deleted core fits deleted (event.Adopt number table group first rows) allowed =
    placed_deleted core fits deleted number table rows (found core number (may_adopt core table group first rows)
    (and_parts (may.at_session core number (may_adopt core table group first rows)) _ allowed).0)
event_deleted core fits deleted (event.Point number (done.Create name schema) moment) allowed =
    let test = may_point core (done.Create name schema) moment in
    let f = found core number test (and_parts (may.at_session core number test) _ allowed).0 in
    let change : Seat → Seat = λ seat. record seat { creates = Some (record { name = name; schema = schema }) } in
    still_deleted core fits deleted number f.session f.seat change f.seat_is f.session_there
    (same_known core.opened core.now.commits f.seat (change f.seat) f.session.asked f.session.transaction refl refl
    (deleted.known (number - 1) f.session f.seat f.session_there f.seat_there))
    (λ t row. deleted.ordered (number - 1) f.seat t row f.seat_there)
event_deleted core fits deleted (event.Point number done.Created moment) allowed =
    commit_deleted core fits deleted (event.Point number done.Created moment) number (told.Created (next_receipt core.now moment))
    (may_point core done.Created moment) _ refl refl (λ session seat passes. (and_parts (is_some seat.creates) _ passes).1) allowed
event_deleted core fits deleted (event.Point number (done.Changed count) moment) allowed =
    commit_deleted core fits deleted (event.Point number (done.Changed count) moment) number (told.Changed count (Some (next_receipt core.now moment)))
    (may_point core (done.Changed count) moment) _ refl refl (λ session seat passes. (and_parts (is_none seat.creates) _ passes).1) allowed
event_deleted core fits deleted (event.Point number done.Commit moment) allowed =
    commit_deleted core fits deleted (event.Point number done.Commit moment) number (told.Committed (next_receipt core.now moment))
    (may_point core done.Commit moment) _ refl refl (λ session seat passes. (and_parts (is_none seat.creates) _ passes).1) allowed
event_deleted core fits deleted (event.Stamp number) allowed =
    let f = found core number may.may_stamp allowed in
    let s = f.session in
    let n = length f.seat.versions - 1 in
    still_deleted core fits deleted number s f.seat
    (λ seat. record seat { versions = does.without_oldest seat.versions }) f.seat_is f.session_there
    (idle_known core.opened core.now.commits (record f.seat { versions = does.without_oldest f.seat.versions })
    s.transaction s.asked s.writes s.last
    (goes_uncommitted core fits (number - 1) s f.seat f.session_there f.seat_there
    (and_parts (may.is_committed f.seat) _ f.passes).0))
    (λ t row. sub_ordered t row f.seat.made f.seat.versions (does.without_oldest f.seat.versions)
    (take_deleted n t row f.seat.versions) (take_ordered n t row f.seat.versions)
    (deleted.ordered (number - 1) f.seat t row f.seat_there))
event_deleted core fits deleted (event.Finish number) allowed =
    let f = found core number may.may_finish allowed in
    let s = f.session in
    still_deleted core fits deleted number s f.seat (λ seat. record seat { live = None }) f.seat_is f.session_there
    (idle_known core.opened core.now.commits (record f.seat { live = None }) s.transaction s.asked s.writes s.last
    (goes_uncommitted core fits (number - 1) s f.seat f.session_there f.seat_there
    (and_parts (may.is_committed f.seat) _ f.passes).0))
    (λ t row. deleted.ordered (number - 1) f.seat t row f.seat_there)
event_deleted core fits deleted (event.Undo number) allowed =
    let f = found core number may.may_undo allowed in
    let s = f.session in
    still_deleted core fits deleted number s f.seat
    (λ seat. record seat { versions = does.without_newest seat.versions }) f.seat_is f.session_there
    (idle_known core.opened core.now.commits (record f.seat { versions = does.without_newest f.seat.versions })
    s.transaction s.asked s.writes s.last
    (not_going (is_some f.seat.live && not (may.is_committed f.seat)) f.seat s
    (and_parts (may.may_go_back s f.seat) _ f.passes).0))
    (λ t row. sub_ordered t row f.seat.made f.seat.versions (does.without_newest f.seat.versions)
    (tail_deleted t row f.seat.versions) (tail_ordered t row f.seat.versions)
    (deleted.ordered (number - 1) f.seat t row f.seat_there))
event_deleted core fits deleted (event.Drop at bound) allowed = deleted
event_deleted core fits deleted (event.Settle table group root) allowed = deleted
event_deleted core fits deleted (event.Reply number reply) allowed =
    let f = found core number (may.may_reply core reply) allowed in
    let s = f.session in
    let passes =
    (and_parts (not (is_committing f.seat)) (may_end_call core reply s f.seat)
    (and_parts (not (is_commit reply)) _ f.passes).1).1 in
    with_seat_deleted core fits deleted (entries_after core (event.Reply number reply))
    (state_with core (Some (history.Reply number reply))) number f.seat
    does.seat_after_reply f.seat_is (grown_with core (Some (history.Reply number reply)))
    (reply_sessions core fits deleted number reply s.transaction s.asked s.writes s.last f.seat f.session_is
    f.session_there f.seat_there passes)
    (λ t row. deleted.ordered (number - 1) f.seat t row f.seat_there)
event_deleted core fits deleted (event.Mark number) allowed = deleted
event_deleted core fits deleted (event.Leave number) allowed =
    let f = found core number may.may_leave allowed in
    let s = f.session in
    still_deleted core fits deleted number s f.seat (λ seat. record seat { live = None }) f.seat_is f.session_there
    (idle_known core.opened core.now.commits (record f.seat { live = None }) s.transaction s.asked s.writes s.last
    (not_going (is_some f.seat.live && not (may.is_committed f.seat)) f.seat s
    (and_parts (may.may_go_back s f.seat) _ f.passes).0))
    (λ t row. deleted.ordered (number - 1) f.seat t row f.seat_there)

step_deleted : (core : Core) → Sound core → Deleted core → (event : Event) → may.allows core event ≡ true
    → Deleted (does.step core event)
step_deleted core sound deleted event allowed =
    let d = event_deleted core sound.fits deleted event (and_parts (may.allows_locally core event) _ allowed).0 in
    record { ordered = d.ordered; known = d.known }

no_versions : (table row : ℕ) (seat : Seat) → no_seat ≡ seat → is_ordered table row (unstamped seat) ≡ true
no_versions table row seat same = subst (λ s. is_ordered table row (unstamped s) ≡ true) same refl

first_known : (opened : List Table) (seat : Seat) (session : Session) → idle ≡ session
    → KnownBy opened [] seat session.asked session.transaction
first_known opened seat session same = subst (λ (s : Session). KnownBy opened [] seat s.asked s.transaction) same tt

first_deleted : (opened : List Table) (iteration sessions : ℕ) → Deleted (first_core opened iteration sessions)
first_deleted opened iteration sessions = record {
  ordered = λ place seat table row at. no_versions table row seat (same_copies SESSIONS place no_seat seat at);
  known = λ place session seat at there. first_known opened seat session (same_copies SESSIONS place idle session at);
}

all_deleted : (core : Core) → Sound core → Deleted core → (events : List Event) → all_allowed core events ≡ true
    → Deleted (core_after core events)
all_deleted core sound deleted [] allowed = deleted
all_deleted core sound deleted (event ∷ events) allowed =
    let h = and_parts (may.allows core event) _ allowed in
    all_deleted (does.step core event) (step_keeps core sound event h.0) (step_deleted core sound deleted event h.0)
    events h.1

pub ordered_over_every_list : OrderedOverEveryList
ordered_over_every_list opened iteration sessions events allowed =
    let first = first_core opened iteration sessions in
    record {
      ordered =
          (all_deleted first (first_sound opened iteration sessions) (first_deleted opened iteration sessions) events
          allowed).ordered;
    }
