-- The entry of an event that is allowed is a step of the machine.
use Rattle.dk_core.specs.Allows as may
use Rattle.dk_core.specs.Changes as in_changes
use Rattle.dk_core.specs.Replies as in_replies
use Rattle.std.proofs.Common.{arith, ◌≡◌, ℕ, zero, suc, ◌+◌, ◌-◌, ◌<◌, ◌≤◌, Bool, true, false, List, [], ◌∷◌, take, drop, length, Option, Some, None, ap, ◌∙◌, sym, refl, subst, slice_get}
use Rattle.std.specs.Prelude.{◌&&◌, not, is_none, ◌==◌, nat_lt, nat_le, if◌then◌else◌}
use Rattle.std.specs.List.{list_all, list_any}
use Rattle.std.proofs.lemmas.Bool.{false≢true, and_from, and_parts, or_parts, or_from, or_left, eqb-true, eq-eqb}
use Rattle.dk_types.specs.declared.net.TableNet.{TableNet}
use Rattle.dk_types.specs.declared.net.Commit.{Commit}
use Rattle.dk_types.specs.declared.reply.Reply.{Reply}
use Rattle.dk_types.specs.declared.reply.Refusal.{Refusal}
use Rattle.dk_types.specs.declared.reply.Holder.{Holder}
use Rattle.dk_types.specs.declared.reply.Receipt.{Receipt}
use Rattle.dk_types.specs.declared.reply.Exhausted.{Exhausted}
use Rattle.dk_syntax.specs.declared.statement.Statement.{Statement}
use Rattle.dk_si.specs.declared.history.Asked.TheVariants.{Unread, Bad, Good}
use Rattle.dk_si.specs.declared.kind.Kind.{Kind}
use Rattle.dk_si.specs.declared.database.Table.{Table}
use Rattle.dk_si.specs.declared.history.Asked.{Asked}
use Rattle.dk_si.specs.declared.history.Entry.{Entry}
use Rattle.dk_si.specs.declared.machine.OpenTransaction.{OpenTransaction}
use Rattle.dk_si.specs.declared.machine.LastTransaction.{LastTransaction}
use Rattle.dk_si.specs.declared.machine.WriteSet.{WriteSet}
use Rattle.dk_si.specs.declared.machine.Transaction.{Transaction}
use Rattle.dk_si.specs.declared.machine.Session.{Session}
use Rattle.dk_si.specs.declared.limits.TheConstants.{MAX_TRANSACTIONS}
use Rattle.dk_si.specs.Nets.{net_has, part_has}
use Rattle.dk_si.specs.Machine.{kind_of, asks_for, session_at, write_set_in_flight, others}
use Rattle.dk_si.specs.HeldRows.{commit_has, is_rollback, has_pending_write, is_blocked}
use Rattle.dk_si.specs.IsStep.{is_step, may_reply, if_there, none_blocked, is_founded, is_founded_refusal, start_of}
use Rattle.dk_si.specs.MayAnswer.{commit_answers, may_answer, open_answers}
use Rattle.dk_si.specs.ReplyTests.{has_no_iteration}
use Rattle.dk_si.proofs.PlaceLemmas.{found_at}
use Rattle.dk_core.specs.declared.seat.Snapshot.{Snapshot}
use Rattle.dk_core.specs.declared.seat.Seat.{Seat}
use Rattle.dk_core.specs.Core.{Core, seat_at, unstamped}
use Rattle.dk_core.specs.Findings.{writer_in, is_full}
use Rattle.dk_si.proofs.TransitionLemmas.{session_of}
use Rattle.dk_core.proofs.Invariant.{Has, Alone, Links, Fits}
use Rattle.dk_types.specs.declared.reply.Reply.TheVariants as told
use Rattle.dk_types.specs.declared.reply.Refusal.TheVariants as why
use Rattle.std.proofs.lemmas.Option.{slice_get_within}
use Rattle.std.proofs.lemmas.List.Folds.{list_any-append}
use Rattle.dk_si.specs.declared.kind.Kind.TheVariants as form
use Rattle.dk_types.specs.declared.reply.Holder.TheVariants as who
use Rattle.dk_si.specs.declared.history.Entry.TheVariants as history
use Rattle.dk_si.specs.declared.machine.Transaction.TheVariants as state
use Rattle.dk_si.specs.IsStep as si

-- what an event finds at its session
pub record Found (core : Core) (number : ℕ) (test : Session → Seat → Bool) : Type 0 where
  pub session : Session
  pub seat : Seat
  pub above : 0 < number
  pub session_is : session_at core.now.sessions number ≡ Some session
  pub session_there : slice_get core.now.sessions (number - 1) ≡ Some session
  pub seat_is : seat_at core.seats number ≡ Some seat
  pub seat_there : slice_get core.seats (number - 1) ≡ Some seat
  pub passes : test session seat ≡ true

pub seat_found : (first : Bool) (seats : List Seat) (number : ℕ) (seat : Seat) → (number == 0) ≡ first
    → (if first then None else slice_get seats (number - 1)) ≡ Some seat → slice_get seats (number - 1) ≡ Some seat
seat_found true seats number seat is there = cc
seat_found false seats number seat is there = there

found_both : (core : Core) (number : ℕ) (test : Session → Seat → Bool) (session : Option Session) (seat : Option Seat)
    → session_at core.now.sessions number ≡ session → seat_at core.seats number ≡ seat
    → may.if_both test session seat ≡ true → Found core number test
found_both core number test (Some session) (Some seat) is there passes =
    let h = found_at core.now.sessions number session is in
    record {
      session = session;
      seat = seat;
      above = h.1;
      session_is = is;
      session_there = h.0;
      seat_is = there;
      seat_there = seat_found (number == 0) core.seats number seat refl there;
      passes = passes;
    }
found_both core number test None seat is there passes = absurd (false≢true passes)
found_both core number test (Some session) None is there passes = absurd (false≢true passes)

pub found : (core : Core) (number : ℕ) (test : Session → Seat → Bool) → may.at_session core number test ≡ true
    → Found core number test
found core number test passes =
    found_both core number test (session_at core.now.sessions number) (seat_at core.seats number) refl refl
    (and_parts (nat_le number core.sessions) _ passes).1

-- a Call is a step
pub call_step : (core : Core) (number : ℕ) (asked : Asked) → may.at_session core number (may.may_call asked) ≡ true
    → is_step core.opened core.entries core.now (history.Call number asked) ≡ true
call_step core number asked allowed =
    let f = found core number (may.may_call asked) allowed in
    subst (λ found. if_there (si.may_call asked) found ≡ true) (sym f.session_is) (and_parts _ _ f.passes).0

pub not_so : (b : Bool) → (b ≡ true → ⊥) → b ≡ false
not_so true none = absurd (none refl)
not_so false none = refl

pub below_last : (begun last : ℕ) → (begun == last) ≡ false → begun ≤ last → nat_lt begun last ≡ true
below_last begun last apart within = grind (arith, apart, within)

-- a Begin that finds room is a step
pub begin_step : (core : Core) (number : ℕ) → Fits core → may.at_session core number may.may_begin ≡ true
    → is_full core ≡ false
    → is_step core.opened core.entries core.now (history.Begun number core.now.begun (length core.now.commits)) ≡ true
begin_step core number fits allowed room =
    let f = found core number may.may_begin allowed in
    let below = below_last core.now.begun MAX_TRANSACTIONS (or_parts (core.now.begun == MAX_TRANSACTIONS) _ room).0
    fits.numbers in
    subst (λ found. if_there (si.may_begin core.now core.now.begun (length core.now.commits)) found ≡ true)
    (sym f.session_is)
    (and_from _ _ (and_parts _ _ f.passes).0
    (and_from _ _ (and_from _ _ (eq-eqb core.now.begun core.now.begun refl) below)
    (eq-eqb (length core.now.commits) (length core.now.commits) refl)))

-- where no item at a place passes a test, none of these does
none_taken : {T : Type 0} → (test : T → Bool) → (xs : List T) → (n : ℕ)
    → ((k : ℕ) (x : T) → k < n → slice_get xs k ≡ Some x → test x ≡ true → ⊥)
    → list_any test (take n xs) ≡ false
none_taken test [] zero none = refl
none_taken test [] (suc n) none = refl
none_taken test (x ∷ xs) zero none = refl
none_taken test (x ∷ xs) (suc n) none =
    or_from (test x) (list_any test (take n xs))
    (not_so (test x) (none zero x (omega arith) refl))
    (none_taken test xs n (λ k y less at. none (suc k) y (omega arith) at))

none_dropped : {T : Type 0} → (test : T → Bool) → (xs : List T) → (n : ℕ)
    → ((k : ℕ) (x : T) → n ≤ k → slice_get xs k ≡ Some x → test x ≡ true → ⊥)
    → list_any test (drop n xs) ≡ false
none_dropped test [] zero none = refl
none_dropped test [] (suc n) none = refl
none_dropped test (x ∷ xs) zero none =
    or_from (test x) (list_any test xs) (not_so (test x) (none zero x (omega arith) refl))
    (none_dropped test xs zero (λ k y le at. none (suc k) y (omega arith) at))
none_dropped test (x ∷ xs) (suc n) none = none_dropped test xs n (λ k y le at. none (suc k) y (omega arith) at)

pub none_but : (test : Session → Bool) (sessions : List Session) (number : ℕ) → 0 < number
    → ((k : ℕ) (other : Session) → (k ≡ number - 1 → ⊥) → slice_get sessions k ≡ Some other → test other ≡ true → ⊥)
    → list_any test (others sessions number) ≡ false
none_but test sessions number above none =
    list_any-append test (take (number - 1) sessions) (drop number sessions)
    ∙ or_from (list_any test (take (number - 1) sessions)) (list_any test (drop number sessions))
    (none_taken test sessions (number - 1) (λ k other less at. none k other (λ same. omega arith) at))
    (none_dropped test sessions number (λ k other le at. none k other (λ same. omega arith) at))

-- a transaction that keeps a row goes on
pub keeps_goes : (table row : ℕ) (transaction : Transaction) (asked : Option Asked) (touched : Option WriteSet)
    (past : Option LastTransaction)
    → has_pending_write table row (session_of transaction asked touched past) ≡ true
    → may.is_active (session_of transaction asked touched past) ≡ true
keeps_goes table row state.Outside asked touched past has = absurd (false≢true has)
keeps_goes table row state.Aborted asked touched past has = absurd (false≢true has)
keeps_goes table row (state.Open active) asked touched past has = (and_parts (net_has active.net table row) _ has).1

pub writes_is : (table row : ℕ) (seat : Seat) (live : Snapshot) → seat.live ≡ Some live → live.commit ≡ None
    → Has seat table row → writer_in table row seat ≡ Some live.number
writes_is table row seat live is none has =
    ap (λ found. elim found as (λ x. Option ℕ) [
      | None ↦ None
      | Some live ↦ if is_none live.commit && net_has (unstamped seat) table row then Some live.number else None
    ]) is
    ∙ ap (λ (b : Bool). if b then Some live.number else None)
    (and_from (is_none live.commit) _ (ap (λ commit. is_none commit) none) has)

-- an open transaction that goes on has its snapshot
pub live_of : (commits : ℕ) (seat : Seat) (transaction : Transaction) (asked : Option Asked)
    (touched : Option WriteSet) (past : Option LastTransaction)
    → Links commits seat (session_of transaction asked touched past) transaction
    → may.is_active (session_of transaction asked touched past) ≡ true
    → (live : Snapshot) × (seat.live ≡ Some live) × (live.commit ≡ None) × (live.start ≡ start_of transaction)
live_of commits seat state.Outside asked touched past links goes = absurd (false≢true goes)
live_of commits seat state.Aborted asked touched past links goes = absurd (false≢true goes)
live_of commits seat (state.Open active) asked touched past links goes =
    (record { number = active.number; start = active.start; commit = None }, links.1 goes, refl, refl)

-- what another session keeps, it writes
pub keeps_writes : (core : Core) → Fits core → (table row k : ℕ) (session : Session)
    → slice_get core.now.sessions k ≡ Some session
    → has_pending_write table row session ≡ true → (seat : Seat) → slice_get core.seats k ≡ Some seat
    → (number : ℕ) × (writer_in table row seat ≡ Some number)
keeps_writes core fits table row k session at has seat there =
    let sits = fits.sit k session seat at there in
    let l = live_of (length core.now.commits) seat session.transaction session.asked session.writes session.last
    sits.links
    (keeps_goes table row session.transaction session.asked session.writes session.last has) in
    (l.0.number, writes_is table row seat l.0 l.1 l.2 (sits.kept table row has))

pub some_there : {T : Type 0} → (xs : List T) (k : ℕ) → k < length xs → (x : T) × (slice_get xs k ≡ Some x)
some_there [] k less = absurd (omega (arith, less))
some_there (x ∷ xs) zero less = (x, refl)
some_there (x ∷ xs) (suc k) less = some_there xs k (omega (arith, less))

-- each session has a seat
pub seat_of : (core : Core) → Fits core → (k : ℕ) (session : Session) → slice_get core.now.sessions k ≡ Some session
    → (seat : Seat) × (slice_get core.seats k ≡ Some seat)
seat_of core fits k session at =
    some_there core.seats k (subst (λ n. k < n) (sym fits.even) (slice_get_within core.now.sessions k session at))

-- a row that is alone is not blocked
pub not_blocked : (core : Core) → Fits core → (number start table row : ℕ) → 0 < number
    → Alone core.now.commits core.seats (number - 1) start table row
    → is_blocked core.now number start table row ≡ false
not_blocked core fits number start table row above alone =
    or_from _ _
    (none_dropped (commit_has table row) core.now.commits start
    (λ k commit le at has. alone.clear k commit le at has))
    (none_but (has_pending_write table row) core.now.sessions number above (λ k other apart at has.
    let seat = seat_of core fits k other at in
    let w = keeps_writes core fits table row k other at has seat.0 seat.1 in
    alone.alone k seat.0 w.0 apart seat.1 w.1))

-- what all ids pass by way of another test
all_by : (test other : ℕ → Bool) (ids : List ℕ) → ((id : ℕ) → test id ≡ true → other id ≡ true)
    → list_all test ids ≡ true → list_all other ids ≡ true
all_by test other [] way all = refl
all_by test other (id ∷ ids) way all = let h = and_parts _ _ all in and_from _ _ (way id h.0)
    (all_by test other ids way h.1)

-- what was made is not stamped
pub made_has : (seat : Seat) (table row : ℕ) → net_has seat.made table row ≡ true → Has seat table row
made_has seat table row has =
    let test : TableNet → Bool = λ part. part.table == table && part_has part row in
    list_any-append test seat.made seat.versions ∙ or_left (list_any test seat.made) (list_any test seat.versions) has

no_receipt : (commits : List Commit) (net : List TableNet) (count : ℕ) (receipt : Option Receipt)
    → commit_answers commits net (told.Changed count receipt) ≡ true → ⊥
no_receipt commits [] count receipt e = false≢true e
no_receipt commits (part ∷ net) count receipt e = false≢true e

pub neither : (b : Bool) → (if b then false else false) ≡ true → ⊥
neither true e = false≢true e
neither false e = false≢true e

-- Changed answers a change
changed_kind : (core : Core) (active : OpenTransaction) (statement : Statement) (kind : Kind) (count : ℕ)
    (receipt : Option Receipt)
    → open_answers core.opened core.now.commits active statement kind (told.Changed count receipt) ≡ true
    → is_rollback kind ≡ false
changed_kind core active statement form.Begin count receipt e = refl
changed_kind core active statement form.Commit count receipt e = refl
changed_kind core active statement form.Rollback count receipt e = absurd (false≢true e)
changed_kind core active statement form.Checkpoint count receipt e = refl
changed_kind core active statement form.Create count receipt e = refl
changed_kind core active statement form.Select count receipt e = refl
changed_kind core active statement form.Change count receipt e = refl

pub changed_goes : (core : Core) (active : OpenTransaction) (asked : Asked) (count : ℕ) (receipt : Option Receipt)
    → may_answer core.opened core.now.commits (state.Open active) asked (told.Changed count receipt) ≡ true
    → not (asks_for is_rollback (Some asked)) ≡ true
changed_goes core active Unread count receipt may = refl
changed_goes core active (Bad at) count receipt may = refl
changed_goes core active (Good statement) count receipt may =
    ap not (changed_kind core active statement (kind_of statement) count receipt may)

-- the rows that a statement changes are free, where its versions have them all
changed_free : (core : Core) → Fits core
    → (number : ℕ) (active : OpenTransaction) (asked : Asked) (touched : Option WriteSet)
    (past : Option LastTransaction) (seat : Seat) → 0 < number
    → slice_get core.now.sessions (number - 1) ≡ Some (session_of (state.Open active) (Some asked) touched past)
    → slice_get core.seats (number - 1) ≡ Some seat → not (asks_for is_rollback (Some asked)) ≡ true
    → (writes : Option WriteSet) → in_changes.has_whole_change writes seat ≡ true
    → none_blocked core.now number active.start writes ≡ true
changed_free core fits number active asked touched past seat above at there goes None all = refl
changed_free core fits number active asked touched past seat above at there goes (Some set) all =
    let sits = fits.sit (number - 1) (session_of (state.Open active) (Some asked) touched past) seat at there in
    let l = live_of (length core.now.commits) seat (state.Open active) (Some asked) touched past sits.links goes in
    all_by (net_has seat.made set.table) (λ row. not (is_blocked core.now number active.start set.table row)) set.ids
    (λ row has. ap not (not_blocked core fits number active.start set.table row above
    (subst (λ start. Alone core.now.commits core.seats (number - 1) start set.table row) l.3
    (sits.free l.0 set.table row l.1 l.2 (made_has seat set.table row has))))) all

same_by : (by other : Holder) → in_replies.same_holder by other ≡ true → by ≡ other
same_by (who.Commit m) (who.Commit n) e = ap who.Commit (eqb-true m n e)
same_by (who.Transaction m) (who.Transaction n) e = ap who.Transaction (eqb-true m n e)
same_by (who.Commit m) (who.Transaction n) e = absurd (false≢true e)
same_by (who.Transaction m) (who.Commit n) e = absurd (false≢true e)

abbrev numbers_of : ℕ → ℕ → ℕ → ℕ → Exhausted
numbers_of clock rows transactions iteration =
    record { clock = clock; rows = rows; transactions = transactions; iteration = iteration }

same_four : (a a' b b' c c' d d' : ℕ) → a ≡ a' → b ≡ b' → c ≡ c' → d ≡ d'
    → numbers_of a b c d ≡ numbers_of a' b' c' d'
same_four a a' b b' c c' d d' one two three four = cc

same_numbers : (a b : Exhausted)
    → ((a.clock == b.clock && a.rows == b.rows) && (a.transactions == b.transactions && a.iteration == b.iteration)) ≡
    true → a ≡ b
same_numbers a b e =
    let h = and_parts _ _ e in
    let k = and_parts _ _ h.0 in
    let m = and_parts _ _ h.1 in
    same_four a.clock b.clock a.rows b.rows a.transactions b.transactions a.iteration b.iteration
    (eqb-true a.clock b.clock k.0) (eqb-true a.rows b.rows k.1) (eqb-true a.transactions b.transactions m.0)
    (eqb-true a.iteration b.iteration m.1)

-- what was found was so
found_founded : (opened : List Table) (number : ℕ) (entries : List Entry) (found : Option Refusal) (refusal : Refusal)
    → ((other : Refusal) → found ≡ Some other → is_founded_refusal opened number entries other ≡ true)
    → in_replies.is_found found refusal ≡ true → is_founded_refusal opened number entries refusal ≡ true
found_founded opened number entries (Some (why.Conflict table row by)) (why.Conflict table' row' by') so is =
    let h = and_parts (table == table' && row == row') (in_replies.same_holder by by') is in
    let k = and_parts (table == table') (row == row') h.0 in
    let same : why.Conflict table row by ≡ why.Conflict table' row' by' =
    ap (λ t. why.Conflict t row by) (eqb-true table table' k.0)
    ∙ (ap (λ r. why.Conflict table' r by) (eqb-true row row' k.1)
    ∙ ap (λ b. why.Conflict table' row' b) (same_by by by' h.1)) in
    subst (λ other. is_founded_refusal opened number entries other ≡ true) same (so (why.Conflict table row by) refl)
found_founded opened number entries (Some (why.Exhausted a)) (why.Exhausted b) so is =
    subst (λ numbers. is_founded_refusal opened number entries (why.Exhausted numbers) ≡ true) (same_numbers a b is)
    (so (why.Exhausted a) refl)
found_founded opened number entries None (why.Conflict table row by) so is = absurd (false≢true is)
found_founded opened number entries None (why.Exhausted numbers) so is =
    or_left (has_no_iteration (why.Exhausted numbers)) _ is
found_founded opened number entries None refusal so is = refl
found_founded opened number entries (Some found) refusal so is = absurd (false≢true is)

same_place : (number : ℕ) → 0 < number → number - 1 + 1 ≡ number
same_place number above = omega (arith, above)

-- a reply by the session's own state is founded
told_founded : (core : Core) → Fits core
    → (number : ℕ) (transaction : Transaction) (asked : Asked) (touched : Option WriteSet)
    (past : Option LastTransaction) (seat : Seat) (reply : Reply)
    → 0 < number → slice_get core.now.sessions (number - 1) ≡ Some (session_of transaction (Some asked) touched past)
    → slice_get core.seats (number - 1) ≡ Some seat
    → in_replies.may_end_call core reply (session_of transaction (Some asked) touched past) seat ≡ true
    → is_founded core.opened number core.entries core.now (session_of transaction (Some asked) touched past)
    reply ≡ true
told_founded core fits number (state.Open active) asked touched past seat (told.Changed count receipt) above at there
    allowed =
    let h = and_parts (may_answer core.opened core.now.commits (state.Open active) asked (told.Changed count receipt))
    _ allowed in
    let writes = write_set_in_flight core.opened core.now.commits (state.Open active) (Some asked) in
    changed_free core fits number active asked touched past seat above at there
    (changed_goes core active asked count receipt h.0) writes
    (and_parts (is_none seat.found) (in_changes.has_whole_change writes seat) h.1).1
told_founded core fits number state.Outside asked touched past seat (told.Changed count receipt) above at there
    allowed = refl
told_founded core fits number state.Aborted asked touched past seat (told.Changed count receipt) above at there
    allowed = refl
told_founded core fits number transaction asked touched past seat (told.Refused refusal) above at there allowed =
    let h = and_parts (may_answer core.opened core.now.commits transaction asked (told.Refused refusal)) _ allowed in
    let sits = fits.sit (number - 1) (session_of transaction (Some asked) touched past) seat at there in
    found_founded core.opened number core.entries seat.found refusal
    (λ other is. subst (λ n. is_founded_refusal core.opened n core.entries other ≡ true) (same_place number above)
    (sits.found other is))
    (and_parts (in_replies.is_found seat.found refusal) _ h.1).0
told_founded core fits number transaction asked touched past seat other above at there allowed = refl

pub told_step : (core : Core) → Fits core
    → (number : ℕ) (reply : Reply) (transaction : Transaction) (asked : Option Asked) (touched : Option WriteSet)
    (past : Option LastTransaction) (seat : Seat)
    → 0 < number → slice_get core.now.sessions (number - 1) ≡ Some (session_of transaction asked touched past)
    → slice_get core.seats (number - 1) ≡ Some seat
    → in_replies.may_end_call core reply (session_of transaction asked touched past) seat ≡ true
    → may_reply core.opened number core.entries core.now reply (session_of transaction asked touched past) ≡ true
told_step core fits number reply transaction None touched past seat above at there allowed =
    absurd (false≢true allowed)
told_step core fits number reply transaction (Some asked) touched past seat above at there allowed =
    and_from _ _
    (and_parts (may_answer core.opened core.now.commits transaction asked reply) _ allowed).0
    (told_founded core fits number transaction asked touched past seat reply above at there allowed)

-- a Reply, or a Point that is one, is a step
pub reply_step : (core : Core) → Fits core → (number : ℕ) (reply : Reply) (test : Session → Seat → Bool)
    → ((session : Session) (seat : Seat) → test session seat ≡ true
    → in_replies.may_end_call core reply session seat ≡ true)
    → may.at_session core number test ≡ true
    → is_step core.opened core.entries core.now (history.Reply number reply) ≡ true
reply_step core fits number reply test told allowed =
    let f = found core number test allowed in
    let s = f.session in
    subst (λ found. if_there (may_reply core.opened number core.entries core.now reply) found ≡ true)
    (sym f.session_is)
    (told_step core fits number reply s.transaction s.asked s.writes s.last f.seat f.above f.session_there
    f.seat_there (told s f.seat f.passes))
