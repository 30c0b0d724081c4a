-- A Point keeps what fits.
use Rattle.dk_core.proofs.HolderLemmas.{writes_parts}
use Rattle.dk_core.proofs.StepLemmas.{neither}
use Rattle.dk_core.specs.Allows as may
use Rattle.dk_core.specs.Commits as in_commits
use Rattle.dk_core.specs.Entries as in_entries
use Rattle.dk_core.specs.Replies as in_replies
use Rattle.dk_core.specs.Step as does
use Rattle.std.proofs.Common.{◌≡◌, ◌⊎◌, inl, inr, ⊎_elim, ℕ, zero, suc, ◌+◌, ◌-◌, ◌<◌, Bool, true, false, List, [], ◌∷◌, ◌++◌, length, Option, Some, None, ap, ◌∙◌, sym, refl, subst, slice_get, slice_set, length-append}
use Rattle.std.specs.Prelude.{◌&&◌, not, if◌then◌else◌}
use Rattle.std.proofs.lemmas.Bool.{true≢false, false≢true, and_parts}
use Rattle.dk_types.specs.declared.net.TableNet.{TableNet}
use Rattle.dk_values.specs.declared.column.Column.{Column}
use Rattle.dk_types.specs.declared.net.Commit.{Commit}
use Rattle.dk_si.proofs.PlaceLemmas.{set_length, set_place}
use Rattle.dk_si.specs.declared.database.Table.{Table}
use Rattle.dk_si.specs.declared.history.Asked.{Asked}
use Rattle.dk_si.specs.declared.history.Entry.{Entry}
use Rattle.dk_si.specs.declared.machine.OpenTransaction.{OpenTransaction}
use Rattle.dk_si.specs.declared.machine.LastTransaction.{LastTransaction}
use Rattle.dk_si.specs.declared.machine.WriteSet.{WriteSet}
use Rattle.dk_si.specs.declared.machine.Transaction.{Transaction}
use Rattle.dk_si.specs.declared.machine.Session.{Session}
use Rattle.dk_si.specs.declared.machine.Machine.{Machine}
use Rattle.dk_si.specs.Machine.{asks_for, session_at, next, transition, net_behind, creation, meaning_now, session_behind, after_reply, last_transaction, write_set_in_flight, kind_of}
use Rattle.dk_si.specs.IsStep.{is_step}
use Rattle.dk_si.specs.ReplyTests.{is_ended, is_next, is_commit}
use Rattle.dk_si.specs.MayAnswer.{may_answer, open_answers, is_creation, commit_answers}
use Rattle.dk_si.specs.declared.kind.Kind.{Kind}
use Rattle.dk_core.specs.declared.seat.Snapshot.{Snapshot}
use Rattle.dk_core.specs.declared.seat.Seat.{Seat}
use Rattle.dk_core.specs.Core.{Core, seat_at, next_receipt}
use Rattle.dk_si.proofs.TransitionLemmas.{session_of, Allowed}
use Rattle.dk_core.proofs.Invariant.{core_with, stands_well, moved, Has, Sits, Fits}
use Rattle.dk_core.proofs.StepLemmas.{Found, found, writes_is, reply_step}
use Rattle.dk_core.proofs.MoveLemmas.{stays}
use Rattle.dk_core.proofs.ChangeLemmas.{some_live}
use Rattle.dk_types.specs.declared.reply.Receipt.{Receipt}
use Rattle.dk_types.specs.declared.reply.Reply.{Reply}
use Rattle.dk_syntax.specs.declared.statement.Statement.{Statement}
use Rattle.dk_si.specs.declared.history.Asked.TheVariants.{Unread, Bad, Good}
use Rattle.dk_si.specs.HeldRows.{is_rollback, commit_has}
use Rattle.dk_core.proofs.CallLemmas.{steps_more, now_more, still_founded}
use Rattle.dk_core.specs.declared.event.Done.{Done}
use Rattle.dk_core.proofs.ReplyLemmas.{NetsGrow, LeftBy, quiet_of, told_allowed, told_left, rolled_back, next_reply}
use Rattle.dk_core.proofs.SeatLemmas.{less_keeps, seat_step}
use Rattle.dk_si.specs.declared.meaning.Meaning.{Meaning}
use Rattle.dk_si.specs.Meaning.{meaning}
use Rattle.dk_si.specs.Database.{after}
use Rattle.dk_types.specs.declared.net.Commit.TheVariants as act
use Rattle.dk_si.specs.declared.history.Entry.TheVariants as history
use Rattle.dk_si.specs.declared.machine.Transaction.TheVariants as state
use Rattle.dk_core.specs.declared.event.Event.TheVariants as event
use Rattle.dk_types.specs.declared.reply.Reply.TheVariants as told
use Rattle.dk_si.specs.declared.kind.Kind.TheVariants as form
use Rattle.std.proofs.lemmas.Bool.{cases_Bool}
use Rattle.std.specs.Prelude.{option_to_list, is_some, is_none}
use Rattle.dk_core.specs.declared.event.Done.TheVariants as done
use Rattle.dk_si.specs.declared.meaning.Meaning.TheVariants as meant

-- a reply with a receipt ends its transaction
point_ends : (opened : List Table) (commits : List Commit) (active : OpenTransaction) (asked : Option Asked)
    (reply : Reply) → is_commit reply ≡ true
    → (transition opened commits active asked reply).transaction ≡ state.Outside
point_ends opened commits active asked (told.Created receipt) is = refl
point_ends opened commits active asked (told.Changed count (Some receipt)) is = refl
point_ends opened commits active asked (told.Changed count None) is = absurd (false≢true is)
point_ends opened commits active asked (told.Rows rows) is = absurd (false≢true is)
point_ends opened commits active asked (told.Begun start) is = absurd (false≢true is)
point_ends opened commits active asked (told.Committed receipt) is = refl
point_ends opened commits active asked told.Ended is = absurd (false≢true is)
point_ends opened commits active asked (told.Checkpointed iteration) is = absurd (false≢true is)
point_ends opened commits active asked (told.Refused refusal) is = absurd (false≢true is)

some_creation : (meaning : Meaning) → is_creation meaning ≡ true
    → (commit : Commit) × (creation meaning ≡ Some commit)
some_creation (meant.Create name schema) is = (act.Create name schema, refl)
some_creation (meant.Rows rows) is = absurd (false≢true is)
some_creation (meant.Change count part) is = absurd (false≢true is)
some_creation (meant.Refused refusal) is = absurd (false≢true is)
some_creation meant.Nothing is = absurd (false≢true is)

no_created : (commits : List Commit) (net : List TableNet) (receipt : Receipt)
    → commit_answers commits net (told.Created receipt) ≡ true → ⊥
no_created commits [] receipt e = false≢true e
no_created commits (part ∷ net) receipt e = false≢true e

created_if : (b c d : Bool) → (if b then (c && d) else false) ≡ true → c ≡ true
created_if true c d e = (and_parts c d e).0
created_if false c d e = absurd (false≢true e)

created : (core : Core) (active : OpenTransaction) (statement : Statement) (kind : Kind) (receipt : Receipt)
    → open_answers core.opened core.now.commits active statement kind (told.Created receipt) ≡ true
    → is_creation (meaning (after core.opened core.now.commits (length core.now.commits)) statement) ≡ true
created core active statement form.Create receipt e =
    created_if active.fresh
    (is_creation (meaning (after core.opened core.now.commits (length core.now.commits)) statement))
    (is_next core.now.commits receipt) e
created core active statement form.Begin receipt e = absurd (neither active.fresh e)
created core active statement form.Commit receipt e = absurd (no_created core.now.commits active.net receipt e)
created core active statement form.Rollback receipt e = absurd (false≢true e)
created core active statement form.Checkpoint receipt e = absurd (false≢true e)
created core active statement form.Select receipt e = absurd (false≢true e)
created core active statement form.Change receipt e = absurd (false≢true e)

created_commit : (core : Core) (active : OpenTransaction) (asked : Asked) (receipt : Receipt)
    → may_answer core.opened core.now.commits (state.Open active) asked (told.Created receipt) ≡ true
    → (commit : Commit) × (creation (meaning_now core.opened core.now.commits (Some asked)) ≡ Some commit)
created_commit core active Unread receipt e = absurd (false≢true e)
created_commit core active (Bad at) receipt e = absurd (false≢true e)
created_commit core active (Good statement) receipt e =
    some_creation (meaning (after core.opened core.now.commits (length core.now.commits)) statement)
    (created core active statement (kind_of statement) receipt e)

point_commit : (core : Core) (active : OpenTransaction) (asked : Asked) (reply : Reply) → is_commit reply ≡ true
    → may_answer core.opened core.now.commits (state.Open active) asked reply ≡ true
    → (commit : Commit) × ((transition core.opened core.now.commits active (Some asked) reply).commit ≡ Some commit)
point_commit core active asked (told.Created receipt) is may = created_commit core active asked receipt may
point_commit core active asked (told.Changed count (Some receipt)) is may =
    (act.Change (net_behind core.opened core.now.commits active (Some asked)), refl)
point_commit core active asked (told.Changed count None) is may = absurd (false≢true is)
point_commit core active asked (told.Rows rows) is may = absurd (false≢true is)
point_commit core active asked (told.Begun start) is may = absurd (false≢true is)
point_commit core active asked (told.Committed receipt) is may = (act.Change active.net, refl)
point_commit core active asked told.Ended is may = absurd (false≢true is)
point_commit core active asked (told.Checkpointed iteration) is may = absurd (false≢true is)
point_commit core active asked (told.Refused refusal) is may = absurd (false≢true is)

not_ended : (reply : Reply) → is_commit reply ≡ true → is_ended reply ≡ true → ⊥
not_ended told.Ended is e = false≢true is
not_ended other is e = false≢true e

-- a session that makes its Point has a snapshot without a commit, the commits become one more, and its transaction
-- is over
pub record Points (core : Core) (number : ℕ) (reply : Reply) (seat : Seat) : Type 0 where
  pub live : Snapshot
  pub has_live : seat.live ≡ Some live
  pub uncommitted : live.commit ≡ None
  pub grown : length (next core.opened core.now (history.Reply number reply)).commits ≡ length core.now.commits + 1
  pub closed : (k : ℕ) (s : Session)
      → slice_get (next core.opened core.now (history.Reply number reply)).sessions k ≡ Some s
      → ((k ≡ number - 1) × (s.transaction ≡ state.Outside)) ⊎
      ((k ≡ number - 1 → ⊥) × (slice_get core.now.sessions k ≡ Some s))

points_open : (core : Core) → Fits core
    → (number : ℕ) (reply : Reply) (transaction : Transaction) (asked : Option Asked) (touched : Option WriteSet)
    (past : Option LastTransaction) (seat : Seat)
    → session_at core.now.sessions number ≡ Some (session_of transaction asked touched past)
    → slice_get core.now.sessions (number - 1) ≡ Some (session_of transaction asked touched past)
    → slice_get core.seats (number - 1) ≡ Some seat
    → is_commit reply ≡ true
    → in_commits.may_commit core reply (session_of transaction asked touched past) seat ≡ true
    → Points core number reply seat
points_open core fits number reply state.Outside asked touched past seat is at there commits passes =
    absurd (false≢true
    (and_parts (in_replies.may_end_call core reply (session_of state.Outside asked touched past) seat) false
    passes).1)
points_open core fits number reply state.Aborted asked touched past seat is at there commits passes =
    absurd (false≢true
    (and_parts (in_replies.may_end_call core reply (session_of state.Aborted asked touched past) seat) false
    passes).1)
points_open core fits number reply (state.Open active) None touched past seat is at there commits passes =
    absurd (false≢true
    (and_parts false (in_commits.all_placed core (session_of (state.Open active) None touched past) seat) passes).0)
points_open core fits number reply (state.Open active) (Some asked) touched past seat is at there commits passes =
    let session = session_of (state.Open active) (Some asked) touched past in
    let k = (and_parts (in_replies.may_end_call core reply session seat) _ passes).0 in
    let answer = (and_parts (may_answer core.opened core.now.commits (state.Open active) asked reply) _ k).0 in
    let c = point_commit core active asked reply commits answer in
    let goes : not (asks_for is_rollback (Some asked)) ≡ true = ⊎_elim
    (λ rolls. absurd (not_ended reply commits (rolled_back core active asked reply rolls answer)))
    (λ off. ap not off)
    (cases_Bool (asks_for is_rollback (Some asked))) in
    let move = transition core.opened core.now.commits active (Some asked) reply in
    let behind = session_behind move.transaction
    (write_set_in_flight core.opened core.now.commits (state.Open active) (Some asked))
    (last_transaction active.number move.transaction move.commit move.net (length core.now.commits)) in
    record {
      live = record { number = active.number; start = active.start; commit = None };
      has_live = (fits.sit (number - 1) session seat at there).links.1 goes;
      uncommitted = refl;
      grown = ap (λ machine. length machine.commits) (sym (next_reply core number reply session is))
          ∙ (ap (λ commit. length (core.now.commits ++ option_to_list commit)) c.1
          ∙ length-append core.now.commits (c.0 ∷ []));
      closed = λ k s found. ⊎_elim
          (λ h. inl (
            h.0,
            ap (λ (x : Session). x.transaction) (sym h.1)
                ∙ point_ends core.opened core.now.commits active (Some asked) reply commits,
          ))
          (λ h. inr h)
          (set_place core.now.sessions (number - 1) behind k s
          (subst (λ machine. slice_get machine.sessions k ≡ Some s) (sym (next_reply core number reply session is))
          found));
    }

points : (core : Core) → Fits core → (number : ℕ) (reply : Reply) (test : Session → Seat → Bool)
    → is_commit reply ≡ true
    → ((session : Session) (seat : Seat) → test session seat ≡ true
    → in_commits.may_commit core reply session seat ≡ true)
    → (f : Found core number test) → Points core number reply f.seat
points core fits number reply test commits tells f =
    points_open core fits number reply f.session.transaction f.session.asked f.session.writes f.session.last f.seat
    f.session_is f.session_there f.seat_there commits
    (tells f.session f.seat f.passes)

-- the seat of an event that is allowed as a commit of this reply
pub commit_found : (core : Core) → Fits core → (number : ℕ) (reply : Reply) (test : Session → Seat → Bool) (also : Bool)
    → is_commit reply ≡ true
    → ((session : Session) (seat : Seat) → test session seat ≡ true
    → in_commits.may_commit core reply session seat ≡ true)
    → (may.at_session core number test && also) ≡ true
    → (f : Found core number test) × Points core number reply f.seat
commit_found core fits number reply test also commits tells allowed =
    let f = found core number test (and_parts (may.at_session core number test) also allowed).0 in
    (f, points core fits number reply test commits tells f)

-- the seat behind its Point
abbrev pub pointed_from : Core → Seat → Snapshot → Seat
pointed_from core seat live =
    record (does.seat_after_reply seat) { live = Some (record live { commit = Some (length core.now.commits + 1) }) }

not_none : (n : ℕ) → Some n ≡ None → ⊥
not_none n e = cc

point_own : (core : Core) (entries : List Entry) (now : Machine) (seats : List Seat) (place : ℕ)
    (active : OpenTransaction) (seat : Seat) (live : Snapshot) (net : List TableNet) (behind : Option WriteSet)
    (commit : Commit)
    → active.number ≡ live.number → LeftBy (Has seat) active behind net state.Outside
    → Sits core.opened entries now seats place
    (session_behind state.Outside behind
    (last_transaction active.number state.Outside (Some commit) net (length core.now.commits)))
    (pointed_from core seat live)
point_own core entries now seats place active seat live net behind commit same left = record {
  links = tt;
  lawful = tt;
  kept = λ table row has. absurd (false≢true has);
  claimed = λ other table row is has. let e = some_live (record live { commit = Some (length core.now.commits + 1) })
      other is in
      (same ∙ ap (λ x. x.number) e, ap (λ x. x.commit) e, left table row has);
  free = λ other table row is none has. let e =
      some_live (record live { commit = Some (length core.now.commits + 1) }) other is in
      absurd (not_none (length core.now.commits + 1) (ap (λ x. x.commit) e ∙ none));
  quiet = λ closed asks. absurd (true≢false asks);
  found = λ refusal is. cc;
}

only_item : (commit : Commit) (i : ℕ) (other : Commit) → slice_get (commit ∷ []) i ≡ Some other → commit ≡ other
only_item commit zero other at = cc
only_item commit (suc i) other at = cc

point_found : NetsGrow → (core : Core) → Fits core
    → (number : ℕ) (reply : Reply) (active : OpenTransaction) (asked : Asked) (touched : Option WriteSet)
    (past : Option LastTransaction) (seat : Seat) → 0 < number
    → session_at core.now.sessions number ≡ Some (session_of (state.Open active) (Some asked) touched past)
    → slice_get core.now.sessions (number - 1) ≡ Some (session_of (state.Open active) (Some asked) touched past)
    → slice_get core.seats (number - 1) ≡ Some seat
    → is_commit reply ≡ true
    → may_answer core.opened core.now.commits (state.Open active) asked reply ≡ true
    → in_replies.suits_versions core (session_of (state.Open active) (Some asked) touched past) seat reply ≡ true
    → is_step core.opened core.entries core.now (history.Reply number reply) ≡ true
    → stands_well core (core.entries ++ history.Reply number reply ∷ []) ≡ true
    → Fits (core_with core (core.entries ++ history.Reply number reply ∷ [])
    (after_reply core.opened core.now number (session_of (state.Open active) (Some asked) touched past) reply)
    (slice_set core.seats (number - 1) (does.seat_after_commit core seat)))
point_found grow core fits number reply active asked touched past seat above is at there commits answer made step
    well =
    let place = number - 1 in
    let session = session_of (state.Open active) (Some asked) touched past in
    let now = after_reply core.opened core.now number session reply in
    let move = transition core.opened core.now.commits active (Some asked) reply in
    let behind = write_set_in_flight core.opened core.now.commits (state.Open active) (Some asked) in
    let n = length core.now.commits in
    let entry = history.Reply number reply in
    let sits = fits.sit place session seat at there in
    let ends = point_ends core.opened core.now.commits active (Some asked) reply commits in
    let c = point_commit core active asked reply commits answer in
    let goes : not (asks_for is_rollback (Some asked)) ≡ true = ⊎_elim
    (λ rolls. absurd (not_ended reply commits (rolled_back core active asked reply rolls answer)))
    (λ off. ap not off)
    (cases_Bool (asks_for is_rollback (Some asked))) in
    let mine : Snapshot = record { number = active.number; start = active.start; commit = None } in
    let linked = sits.links.1 goes in
    let new = pointed_from core seat mine in
    let session' = session_behind move.transaction behind
    (last_transaction active.number move.transaction move.commit move.net n) in
    let left = subst (λ t. LeftBy (Has seat) active behind move.net t) ends
    (told_left grow core fits number active asked touched past seat reply mine at there linked
    (quiet_of core session seat reply made)) in
    let allowed : Allowed (Has seat) active.start state.Outside (Some c.0) =
    subst (λ commit. Allowed (Has seat) active.start state.Outside commit) c.1
    (subst (λ t. Allowed (Has seat) active.start t move.commit) ends
    (told_allowed core fits number active asked touched past seat reply at there answer made)) in
    subst (λ s. Fits (core_with core (core.entries ++ entry ∷ []) now (slice_set core.seats place s)))
    (sym (ap (λ found. elim found as (λ x. Seat) [ None ↦ seat | Some live ↦ pointed_from core seat live ]) linked))
    (stays core (core.entries ++ entry ∷ []) now (slice_set core.seats place new) place session' new fits
    (record {
      more = c.0 ∷ [];
      grown = ap (λ commit. core.now.commits ++ option_to_list commit) c.1;
      sessions_at = λ k s e. set_place core.now.sessions place session' k s e;
      seats_at = λ k t e. set_place core.seats place new k t e;
      own = subst
          (λ t. Sits core.opened (core.entries ++ entry ∷ []) now (slice_set core.seats place new) place
          (session_behind t behind (last_transaction active.number t move.commit move.net n)) new) (sym ends)
          (subst (λ commit. Sits core.opened (core.entries ++ entry ∷ []) now (slice_set core.seats place new) place
          (session_behind state.Outside behind (last_transaction active.number state.Outside commit move.net n)) new)
          (sym c.1)
          (point_own core (core.entries ++ entry ∷ []) now (slice_set core.seats place new) place active seat mine
          move.net behind c.0 refl left));
      others = λ k other live table row apart where_is here none has. (
        (λ m w. let p = writes_parts table row m new new.live refl w in
            let e = some_live (record mine { commit = Some (n + 1) }) p.live p.is in
            not_none (n + 1) (ap (λ x. x.commit) e ∙ p.commits)),
        (λ i commit at_i has_it.
            (sits.free mine table row linked refl
            (allowed table row
            (subst (λ x. commit_has table row x ≡ true) (sym (only_item c.0 i commit at_i)) has_it))).alone
            k other live.number apart where_is (writes_is table row other live here none has)),
      );
      since = λ k refusal apart so. still_founded core (k + 1) entry refusal refl so;
    })
    (next_reply core number reply session is ∙ now_more core fits entry) (steps_more core fits entry step) well
    fits.numbers
    (set_length core.seats place new ∙ (fits.even ∙ sym (set_length core.now.sessions place session')))
    (set_length core.seats place new ∙ fits.count))

-- what may make a commit point may be told
placed_told : (core : Core) (reply : Reply) (session : Session) (seat : Seat)
    → (in_replies.may_end_call core reply session seat && in_commits.all_placed core session seat) ≡ true
    → in_replies.may_end_call core reply session seat ≡ true
placed_told core reply session seat passes = (and_parts (in_replies.may_end_call core reply session seat) _ passes).0

point_open : NetsGrow → (core : Core) → Fits core → (number : ℕ) (reply : Reply) (transaction : Transaction)
    (asked : Option Asked) (touched : Option WriteSet) (past : Option LastTransaction) (seat : Seat) → 0 < number
    → session_at core.now.sessions number ≡ Some (session_of transaction asked touched past)
    → slice_get core.now.sessions (number - 1) ≡ Some (session_of transaction asked touched past)
    → slice_get core.seats (number - 1) ≡ Some seat
    → is_commit reply ≡ true
    → (in_replies.may_end_call core reply (session_of transaction asked touched past) seat
    && in_commits.all_placed core (session_of transaction asked touched past) seat) ≡ true
    → is_step core.opened core.entries core.now (history.Reply number reply) ≡ true
    → stands_well core (core.entries ++ history.Reply number reply ∷ []) ≡ true
    → Fits (core_with core (core.entries ++ history.Reply number reply ∷ [])
    (after_reply core.opened core.now number (session_of transaction asked touched past) reply)
    (slice_set core.seats (number - 1) (does.seat_after_commit core seat)))
point_open grow core fits number reply state.Outside asked touched past seat above is at there commits passes step
    well =
    absurd (false≢true
    (and_parts (in_replies.may_end_call core reply (session_of state.Outside asked touched past) seat) false
    passes).1)
point_open grow core fits number reply state.Aborted asked touched past seat above is at there commits passes step
    well =
    absurd (false≢true
    (and_parts (in_replies.may_end_call core reply (session_of state.Aborted asked touched past) seat) false
    passes).1)
point_open grow core fits number reply (state.Open active) None touched past seat above is at there commits passes
    step well =
    absurd (false≢true
    (and_parts false (in_commits.all_placed core (session_of (state.Open active) None touched past) seat) passes).0)
point_open grow core fits number reply (state.Open active) (Some asked) touched past seat above is at there commits
    passes step well =
    let k = (and_parts
    (in_replies.may_end_call core reply (session_of (state.Open active) (Some asked) touched past) seat) _
    passes).0 in
    let m = and_parts (may_answer core.opened core.now.commits (state.Open active) asked reply) _ k in
    point_found grow core fits number reply active asked touched past seat above is at there commits
    m.0 (and_parts (in_replies.suits_findings seat reply) _ m.1).1 step well

point_by : NetsGrow → (core : Core) → Fits core → (number : ℕ) (reply : Reply) (test : Session → Seat → Bool)
    → ((session : Session) (seat : Seat) → test session seat ≡ true
    → (in_replies.may_end_call core reply session seat && in_commits.all_placed core session seat) ≡ true)
    → is_commit reply ≡ true → may.at_session core number test ≡ true
    → stands_well core (core.entries ++ history.Reply number reply ∷ []) ≡ true
    → Fits (core_with core (core.entries ++ history.Reply number reply ∷ [])
    (next core.opened core.now (history.Reply number reply))
    (elim (seat_at core.seats number) as
    (λ x. List Seat)
    [ None ↦ core.seats | Some seat ↦ slice_set core.seats (number - 1) (does.seat_after_commit core seat) ]))
point_by grow core fits number reply test tells commits allowed well =
    let f = found core number test allowed in
    let s = f.session in
    let entry = history.Reply number reply in
    let step = reply_step core fits number reply test
    (λ session seat passes. placed_told core reply session seat (tells session seat passes)) allowed in
    subst (λ now. Fits (core_with core (core.entries ++ entry ∷ []) now
    (elim (seat_at core.seats number) as
    (λ x. List Seat)
    [ None ↦ core.seats | Some seat ↦ slice_set core.seats (number - 1) (does.seat_after_commit core seat) ])))
    (next_reply core number reply s f.session_is)
    (subst (λ found. Fits
    (core_with core (core.entries ++ entry ∷ []) (after_reply core.opened core.now number s reply)
    (elim found as (λ x. List Seat) [
      | None ↦ core.seats
      | Some seat ↦ slice_set core.seats (number - 1) (does.seat_after_commit core seat)
    ]))) (sym f.seat_is)
    (point_open grow core fits number reply s.transaction s.asked s.writes s.last f.seat f.above f.session_is
    f.session_there f.seat_there commits (tells s f.seat f.passes) step well))

create_keeps : (core : Core) → Fits core → (number moment : ℕ) (name : List ℕ) (schema : List Column)
    → may.at_session core number (in_commits.may_point core (done.Create name schema) moment) ≡ true
    → Fits (moved core (event.Point number (done.Create name schema) moment))
create_keeps core fits number moment name schema allowed =
    let f = found core number (in_commits.may_point core (done.Create name schema) moment) allowed in
    seat_step core number f.seat (λ seat. record seat { creates = Some (record { name = name; schema = schema }) })
    f.seat_is
    (less_keeps core fits (number - 1) f.session f.seat
    (record f.seat { creates = Some (record { name = name; schema = schema }) }) f.session_there f.seat_there
    (record { live = refl; found = refl; made = λ t row has. has; versions = λ t row has. has })
    (fits.sit (number - 1) f.session f.seat f.session_there f.seat_there).kept)

-- a Point keeps what fits
pub point_keeps : NetsGrow → (core : Core) → Fits core → (number : ℕ) (what : Done) (moment : ℕ)
    → may.at_session core number (in_commits.may_point core what moment) ≡ true
    → stands_well core (in_entries.entries_after core (event.Point number what moment)) ≡ true
    → Fits (moved core (event.Point number what moment))
point_keeps grow core fits number (done.Create name schema) moment allowed well =
    create_keeps core fits number moment name schema allowed
point_keeps grow core fits number done.Created moment allowed well =
    point_by grow core fits number (told.Created (next_receipt core.now moment))
    (in_commits.may_point core done.Created moment)
    (λ session seat passes. (and_parts (is_some seat.creates) _ passes).1) refl allowed well
point_keeps grow core fits number (done.Changed count) moment allowed well =
    point_by grow core fits number (told.Changed count (Some (next_receipt core.now moment)))
    (in_commits.may_point core (done.Changed count) moment)
    (λ session seat passes. (and_parts (is_none seat.creates) _ passes).1) refl allowed well
point_keeps grow core fits number done.Commit moment allowed well =
    point_by grow core fits number (told.Committed (next_receipt core.now moment))
    (in_commits.may_point core done.Commit moment)
    (λ session seat passes. (and_parts (is_none seat.creates) _ passes).1) refl allowed well
