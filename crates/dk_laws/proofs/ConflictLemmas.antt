-- A conflict has its cause.
use Rattle.std.proofs.Common.{◌≡◌, ⊎_elim, ℕ, zero, suc, ◌+◌, ◌-◌, ◌<◌, Bool, true, false, List, [], ◌∷◌}
use Rattle.std.proofs.Common.{◌++◌, take, drop, length, Option, Some, None, ap, ◌∙◌, sym, refl, subst, arith, slice_get}
use Rattle.std.proofs.Common.{slice_set, append-nil, append_assoc}
use Rattle.std.specs.Prelude.{is_none, ◌&&◌, ◌||◌, ◌==◌, nat_lt, if◌then◌else◌}
use Rattle.std.specs.List.{list_any}
use Rattle.std.proofs.lemmas.Bool.{false≢true, and_parts, or_cases, ltb-true, eqb-true, cases_Bool}
use Rattle.std.proofs.lemmas.List.Folds.{list_any-append}
use Rattle.dk_types.specs.declared.net.Commit.{Commit}
use Rattle.dk_types.specs.declared.net.TableNet.{TableNet}
use Rattle.dk_types.specs.declared.reply.Holder.{Holder}
use Rattle.dk_types.specs.declared.reply.Holder.TheVariants as who
use Rattle.dk_types.specs.declared.reply.Refusal.{Refusal}
use Rattle.dk_types.specs.declared.reply.Refusal.TheVariants as why
use Rattle.dk_types.specs.declared.reply.Reply.{Reply}
use Rattle.dk_types.specs.declared.reply.Reply.TheVariants as told
use Rattle.dk_syntax.specs.declared.statement.Statement.{Statement}
use Rattle.dk_si.specs.declared.database.Table.{Table}
use Rattle.dk_si.specs.declared.history.Asked.{Asked}
use Rattle.dk_si.specs.declared.history.Asked.TheVariants.{Unread, Bad, Good}
use Rattle.dk_si.specs.declared.history.Entry.{Entry}
use Rattle.dk_si.specs.declared.history.Entry.TheVariants as history
use Rattle.dk_si.specs.declared.kind.Kind.{Kind}
use Rattle.dk_si.specs.declared.kind.Kind.TheVariants as form
use Rattle.dk_si.specs.declared.machine.LastTransaction.{LastTransaction}
use Rattle.dk_si.specs.declared.machine.Machine.{Machine}
use Rattle.dk_si.specs.declared.machine.OpenTransaction.{OpenTransaction}
use Rattle.dk_si.specs.declared.machine.Session.{Session}
use Rattle.dk_si.specs.declared.machine.Transaction.{Transaction}
use Rattle.dk_si.specs.declared.machine.Transaction.TheVariants as state
use Rattle.dk_si.specs.declared.machine.WriteSet.{WriteSet}
use Rattle.dk_si.specs.declared.meaning.Meaning.{Meaning}
use Rattle.dk_si.specs.declared.meaning.Meaning.TheVariants as meant
use Rattle.dk_laws.specs.ConflictLaws.{CommitHolds, HasHolder, HasCause, ConflictsHaveCauses}
use Rattle.dk_si.specs.Database.{after}
use Rattle.dk_si.specs.HeldRows.{commit_has, some_commit_has, writes_row, session_holds}
use Rattle.dk_si.specs.HeldRows.{holds_against, commit_holds, holds}
use Rattle.dk_si.specs.IsStep.{are_steps, is_step, start_of, may_begin, may_reply, if_there}
use Rattle.dk_si.specs.Laws.{state_after}
use Rattle.dk_si.specs.Machine.{first_state, others, session_at, kind_of, asks_for, begins_one, is_outside, meaning_in}
use Rattle.dk_si.specs.Machine.{write_set, write_set_in_flight, after_reply, next}
use Rattle.dk_si.specs.MayAnswer.{is_meant_refusal, is_refused_from, commit_answers, outside_answers, aborted_answers}
use Rattle.dk_si.specs.MayAnswer.{open_answers, may_answer}
use Rattle.dk_si.specs.Meaning.{meaning, is_same_refusal}
use Rattle.dk_laws.specs.SessionLaws.{session_in}
use Rattle.dk_si.specs.StatesSince.{is_call_of, states_from, states_since, was_since_call}
use Rattle.dk_si.proofs.GrowthLemmas.{Grown, entry_grows}
use Rattle.dk_si.proofs.HolderLemmas.{not_both}
use Rattle.dk_si.proofs.PlaceLemmas.{last_place, set_place, found_at}
use Rattle.dk_si.proofs.TransitionLemmas.{session_of}
use Rattle.dk_laws.proofs.SessionLemmas.{other_leaves}

-- an item of a list that passes a test, and its place
record Found {T : Type 0} (test : T → Bool) (xs : List T) : Type 0 where
  place : ℕ
  item : T
  there : slice_get xs place ≡ Some item
  passes : test item ≡ true

found_behind : {T : Type 0} → (test : T → Bool) (x : T) (xs : List T) → Found test xs → Found test (x ∷ xs)
found_behind test x xs at = record { place = suc at.place; item = at.item; there = at.there; passes = at.passes }

find : {T : Type 0} → (test : T → Bool) (xs : List T) → list_any test xs ≡ true → Found test xs
find test [] any = absurd (false≢true any)
find test (x ∷ xs) any =
    ⊎_elim (λ here. record { place = 0; item = x; there = refl; passes = here })
    (λ later. found_behind test x xs (find test xs later))
    (or_cases (test x) (list_any test xs) any)

at_drop : {T : Type 0} → (n k : ℕ) (xs : List T) → slice_get (drop n xs) k ≡ slice_get xs (n + k)
at_drop zero k xs = let e : k ≡ 0 + k = omega arith in ap (slice_get xs) e
at_drop (suc n) k [] = refl
at_drop (suc n) k (x ∷ xs) = let e : suc (n + k) ≡ suc n + k = omega arith in at_drop n k xs ∙ ap (slice_get (x ∷ xs)) e

at_take : {T : Type 0} → (n k : ℕ) (xs : List T) (x : T) → slice_get (take n xs) k ≡ Some x
    → (k < n) × (slice_get xs k ≡ Some x)
at_take zero k xs x at = cc
at_take (suc n) k [] x at = cc
at_take (suc n) zero (y ∷ xs) x at = (omega arith, at)
at_take (suc n) (suc k) (y ∷ xs) x at = let h = at_take n k xs x at in let less = h.0 in (omega arith, h.1)

pub at_front : {T : Type 0} → (xs ys : List T) (k : ℕ) (x : T) → slice_get xs k ≡ Some x → slice_get (xs ++ ys) k
    ≡ Some x
at_front [] ys k x at = cc
at_front (y ∷ xs) ys zero x at = at
at_front (y ∷ xs) ys (suc k) x at = at_front xs ys k x at

-- another session that passes a test, and its place
record FoundOther (test : Session → Bool) (sessions : List Session) (number : ℕ) : Type 0 where
  place : ℕ
  other : place + 1 ≡ number → ⊥
  session : Session
  there : slice_get sessions place ≡ Some session
  passes : test session ≡ true

find_other : (test : Session → Bool) (sessions : List Session) (number : ℕ) → list_any test (others sessions number)
    ≡ true
    → FoundOther test sessions number
find_other test sessions number any =
    ⊎_elim
    (λ front. let at = find test (take (number - 1) sessions) front in
    let h = at_take (number - 1) at.place sessions at.item at.there in
    let less = h.0 in
    record {
      place = at.place;
      other = λ same. absurd
          (omega (arith, less, same));
      session = at.item;
      there = h.1;
      passes = at.passes;
    })
    (λ rest. let at = find test (drop number sessions) rest in
    record {
      place = number + at.place;
      other = λ same. absurd (omega (arith, same));
      session = at.item;
      there = sym (at_drop number at.place sessions) ∙ at.there;
      passes = at.passes;
    })
    (or_cases _ _ (sym (list_any-append test (take (number - 1) sessions) (drop number sessions)) ∙ any))

-- no meaning is a conflict
never_same : (own : Refusal) (table row : ℕ) (by : Holder) → is_same_refusal own (why.Conflict table row by) ≡ true → ⊥
never_same (why.NoTable at) table row by e = false≢true e
never_same (why.NoColumn at) table row by e = false≢true e
never_same (why.TypeMismatch at) table row by e = false≢true e
never_same (why.SameColumn at) table row by e = false≢true e
never_same (why.NotGrouped at) table row by e = false≢true e
never_same (why.TableExists at) table row by e = false≢true e
never_same why.TooManyTables table row by e = false≢true e
never_same (why.OutOfRange at) table row by e = false≢true e
never_same why.Unsupported table row by e = false≢true e
never_same (why.BadField at field) table row by e = false≢true e
never_same (why.TooLarge bytes rows) table row by e = false≢true e
never_same other table row by e = false≢true e

never_meant : (meaning : Meaning) (table row : ℕ) (by : Holder) → is_meant_refusal meaning (why.Conflict table row by)
    ≡ true → ⊥
never_meant (meant.Refused own) table row by e = never_same own table row by e
never_meant other table row by e = false≢true e

never_from : (opened : List Table) (commits : List Commit) (statement : Statement) (table row : ℕ) (by : Holder)
    → (n more : ℕ)
    → is_refused_from opened commits statement (why.Conflict table row by) n more ≡ true → ⊥
never_from opened commits statement table row by n zero e =
    never_meant (meaning (after opened commits n) statement) table row by e
never_from opened commits statement table row by n (suc more) e =
    ⊎_elim (never_meant (meaning (after opened commits n) statement) table row by)
    (never_from opened commits statement table row by (n + 1) more) (or_cases _ _ e)

never_if : (fresh test : Bool) → (test ≡ true → ⊥) → (if fresh then test else false) ≡ true → ⊥
never_if true test never e = never e
never_if false test never e = false≢true e

not_or : (test : Bool) → (test ≡ true → ⊥) → (test || (false || false)) ≡ true → ⊥
not_or true never e = never refl
not_or false never e = false≢true e

not_or_false : (test : Bool) → (test ≡ true → ⊥) → (test || false) ≡ true → ⊥
not_or_false true never e = never refl
not_or_false false never e = false≢true e

-- the row of a conflict is one that the statement changes
row_is_changed : (opened : List Table) (commits : List Commit) (active : OpenTransaction) (statement : Statement)
    → (kind : Kind)
    → (table row : ℕ) (by : Holder)
    → open_answers opened commits active statement kind (told.Refused (why.Conflict table row by)) ≡ true
    → writes_row (write_set opened commits active (meaning_in opened commits active (Good statement))) table row ≡ true
row_is_changed opened commits active statement form.Change table row by e = e
row_is_changed opened commits active statement form.Begin table row by e =
    absurd (never_if active.fresh false false≢true e)
row_is_changed opened commits active statement form.Commit table row by e = absurd (never active.net e)
  where
    never : (net : List TableNet) → commit_answers commits net (told.Refused (why.Conflict table row by)) ≡ true → ⊥
    never [] e = false≢true e
    never (part ∷ net) e = false≢true e
row_is_changed opened commits active statement form.Rollback table row by e = absurd (false≢true e)
row_is_changed opened commits active statement form.Checkpoint table row by e = absurd (false≢true e)
row_is_changed opened commits active statement form.Create table row by e =
    absurd (never_if active.fresh _
    (not_or _ (never_from opened commits statement table row by active.start (length commits - active.start))) e)
row_is_changed opened commits active statement form.Select table row by e =
    absurd (not_or_false _ (never_meant (meaning_in opened commits active (Good statement)) table row by) e)

never_outside : (commits : List Commit) (kind : Kind) (table row : ℕ) (by : Holder)
    → outside_answers commits kind (told.Refused (why.Conflict table row by)) ≡ true → ⊥
never_outside commits form.Commit table row by e = false≢true e
never_outside commits form.Rollback table row by e = false≢true e
never_outside commits form.Checkpoint table row by e = false≢true e
never_outside commits other table row by e = false≢true e

never_aborted : (kind : Kind) (table row : ℕ) (by : Holder)
    → aborted_answers kind (told.Refused (why.Conflict table row by)) ≡ true → ⊥
never_aborted form.Rollback table row by e = false≢true e
never_aborted other table row by e = false≢true e

-- since a state, commits have been added alone, and a transaction that was open in it is so still, while a call is in
-- flight
record Follows (number : ℕ) (past now : Machine) : Type 0 where
  grown : Grown now.commits past.commits
  stays : (old session : Session) (active : OpenTransaction) → session_at past.sessions number ≡ Some old
      → old.transaction ≡ state.Open active → session_at now.sessions number ≡ Some session → is_none session.asked
      ≡ false
      → session.transaction ≡ state.Open active

same_some : {T : Type 0} → (found : Option T) (x y : T) → found ≡ Some x → found ≡ Some y → x ≡ y
same_some found x y one other = cc

follows_itself : (number : ℕ) (machine : Machine) → Follows number machine machine
follows_itself number machine = record {
  grown = record { more = []; is = sym (append-nil machine.commits) };
  stays = λ old session active was opens is asked.
      subst (λ (now : Session). now.transaction ≡ state.Open active)
      (same_some (session_at machine.sessions number) old session was is) opens;
}

grown_more : (after now past : List Commit) → Grown after now → Grown now past → Grown after past
grown_more after now past one other = record {
  more = other.more ++ one.more;
  is = one.is ∙ (ap (λ commits. commits ++ one.more) other.is ∙ append_assoc past other.more one.more);
}

-- another session's entry
other_follows : (opened : List Table) (number : ℕ) (past machine : Machine) (entry : Entry)
    → (session_in entry == number) ≡ false
    → Follows number past machine → Follows number past (next opened machine entry)
other_follows opened number past machine entry apart follows = record {
  grown = grown_more (next opened machine entry).commits machine.commits past.commits
      (entry_grows opened machine entry) follows.grown;
  stays = λ old session active was opens is asked.
      follows.stays old session active was opens (sym (other_leaves opened machine entry number apart) ∙ is) asked;
}

-- a session that stands at a place that is set
set_here : {T : Type 0} → (xs : List T) (n : ℕ) (new found : T) → slice_get (slice_set xs n new) n ≡ Some found → new
    ≡ found
set_here xs n new found at = ⊎_elim (λ h. h.1) (λ h. absurd (h.0 refl)) (set_place xs n new n found at)

-- after a reply no call is in flight
asked_after : (opened : List Table) (machine : Machine) (number : ℕ) (reply : Reply) (found : Session)
    → (transaction : Transaction) (asked : Option Asked) (writes : Option WriteSet) (last : Option LastTransaction)
    → slice_get (after_reply opened machine number (session_of transaction asked writes last) reply).sessions
    (number - 1) ≡ Some found → is_none found.asked ≡ true
asked_after opened machine number reply found state.Outside asked writes last at =
    ap (λ (now : Session). is_none now.asked) (sym (set_here machine.sessions (number - 1) _ found at))
asked_after opened machine number reply found state.Aborted asked writes last at =
    ap (λ (now : Session). is_none now.asked) (sym (set_here machine.sessions (number - 1) _ found at))
asked_after opened machine number reply found (state.Open active) asked writes last at =
    ap (λ (now : Session). is_none now.asked) (sym (set_here machine.sessions (number - 1) _ found at))

own_reply : (opened : List Table) (machine : Machine) (number : ℕ) (reply : Reply) (before : Option Session)
    → (found : Session)
    → session_at machine.sessions number ≡ before
    → session_at (elim before as (λ x. Machine) [
      | None ↦ machine
      | Some session ↦ after_reply opened machine number session reply
    ]).sessions number ≡ Some found → is_none found.asked ≡ true
own_reply opened machine number reply None found is at = cc
own_reply opened machine number reply (Some before) found is at =
    asked_after opened machine number reply found before.transaction before.asked before.writes before.last
    (found_at (after_reply opened machine number before reply).sessions number found at).0

reply_follows : (opened : List Table) (number : ℕ) (past machine : Machine) (reply : Reply)
    → Follows number past machine
    → Follows number past (next opened machine (history.Reply number reply))
reply_follows opened number past machine reply follows = record {
  grown = grown_more (next opened machine (history.Reply number reply)).commits machine.commits past.commits
      (entry_grows opened machine (history.Reply number reply)) follows.grown;
  stays = λ old session active was opens is asked.
      absurd (not_both (own_reply opened machine number reply
      (session_at machine.sessions number) session refl is) asked);
}

-- a transaction begins for a call
begins_for_a_call : (asked : Option Asked) → asks_for begins_one asked ≡ true → is_none asked ≡ false
begins_for_a_call None begins = absurd (false≢true begins)
begins_for_a_call (Some asked) begins = refl

-- a session whose transaction begins had none
had_none : (machine : Machine) (number transaction start : ℕ) (past : Machine) (found : Option Session)
    → (old : Session) (active : OpenTransaction)
    → Follows number past machine → session_at machine.sessions number ≡ found
    → if_there (may_begin machine transaction start) found ≡ true
    → session_at past.sessions number ≡ Some old → old.transaction ≡ state.Open active → ⊥
had_none machine number transaction start past None old active follows is may was opens = false≢true may
had_none machine number transaction start past (Some before) old active follows is may was opens =
    let h = and_parts (asks_for begins_one before.asked) (is_outside before.transaction) (and_parts _ _ may).0 in
    let asked = begins_for_a_call before.asked h.0 in
    false≢true (ap is_outside (sym (follows.stays old before active was opens is asked)) ∙ h.1)

begun_follows : (opened : List Table) (number transaction start : ℕ) (past machine : Machine)
    → if_there (may_begin machine transaction start) (session_at machine.sessions number) ≡ true
    → Follows number past machine
    → Follows number past (next opened machine (history.Begun number transaction start))
begun_follows opened number transaction start past machine may follows = record {
  grown = grown_more (next opened machine (history.Begun number transaction start)).commits machine.commits past.commits
      (entry_grows opened machine (history.Begun number transaction start)) follows.grown;
  stays = λ old session active was opens is asked.
      absurd (had_none machine number transaction start past
      (session_at machine.sessions number) old active follows refl may was opens);
}

step_follows : (opened : List Table) (before : List Entry) (number : ℕ) (past machine : Machine) (entry : Entry)
    → is_call_of number entry ≡ false → is_step opened before machine entry ≡ true → Follows number past machine
    → Follows number past (next opened machine entry)
step_follows opened before number past machine (history.Call caller asked) calls step follows =
    other_follows opened number past machine (history.Call caller asked) calls follows
step_follows opened before number past machine (history.Begun caller transaction start) calls step follows =
    ⊎_elim
    (λ own. let same = eqb-true caller number own in
    subst (λ n. Follows n past (next opened machine (history.Begun caller transaction start))) same
    (begun_follows opened caller transaction start past machine step
    (subst (λ n. Follows n past machine) (sym same) follows)))
    (λ apart. other_follows opened number past machine (history.Begun caller transaction start) apart follows)
    (cases_Bool (caller == number))
step_follows opened before number past machine (history.Reply caller reply) calls step follows =
    ⊎_elim
    (λ own. let same = eqb-true caller number own in
    subst (λ n. Follows n past (next opened machine (history.Reply caller reply))) same
    (reply_follows opened caller past machine reply (subst (λ n. Follows n past machine) (sym same) follows)))
    (λ apart. other_follows opened number past machine (history.Reply caller reply) apart follows)
    (cases_Bool (caller == number))

abbrev AllFollow : ℕ → Machine → List Machine → Type 0
AllFollow number now states = (k : ℕ) (past : Machine) → slice_get states k ≡ Some past → Follows number past now

-- the states that are kept, and one more
kept_follow : (opened : List Table) (before : List Entry) (number : ℕ) (machine : Machine) (states : List Machine)
    → (entry : Entry)
    → (calls : Bool) → is_call_of number entry ≡ calls → is_step opened before machine entry ≡ true
    → AllFollow number machine states
    → AllFollow number (next opened machine entry) ((if calls then [] else states) ++ next opened machine entry ∷ [])
kept_follow opened before number machine states entry true is step all k past at =
    ⊎_elim (λ h. cc)
    (λ h. subst (λ now. Follows number now (next opened machine entry)) h.1
    (follows_itself number (next opened machine entry)))
    (last_place [] (next opened machine entry) k past at)
kept_follow opened before number machine states entry false is step all k past at =
    ⊎_elim (λ h. step_follows opened before number past machine entry is step (all k past h))
    (λ h. subst (λ now. Follows number now (next opened machine entry)) h.1
    (follows_itself number (next opened machine entry)))
    (last_place states (next opened machine entry) k past at)

states_follow : (opened : List Table) (before : List Entry) (number : ℕ) (machine : Machine) (states : List Machine)
    → (entries : List Entry)
    → are_steps opened before machine entries ≡ true → AllFollow number machine states
    → AllFollow number (state_after opened machine entries) (states_from opened number machine states entries)
states_follow opened before number machine states [] steps all = all
states_follow opened before number machine states (entry ∷ entries) steps all =
    let h = and_parts _ _ steps in
    let now = next opened machine entry in
    states_follow opened (before ++ entry ∷ []) number now
    ((if is_call_of number entry then [] else states) ++ now ∷ []) entries h.1
    (kept_follow opened before number machine states entry (is_call_of number entry) refl h.0 all)

-- each state since the call of a session
since_follow : (opened : List Table) (entries : List Entry) (number : ℕ) → are_steps opened [] first_state entries
    ≡ true
    → AllFollow number (state_after opened first_state entries) (states_since opened number entries)
since_follow opened entries number steps = states_follow opened [] number first_state [] entries steps (λ k past at. cc)

-- the commit of that number, in a state that others follow
commit_found : (now past : Machine) (number start n table row : ℕ) → Grown now.commits past.commits
    → commit_holds past number start n table row ≡ true → CommitHolds now.commits start n table row
commit_found now past number start n table row grown held =
    let here = some_commit_has (take 1 (drop (n - 1) past.commits)) table row in
    let h = and_parts (nat_lt start n) here (and_parts _ _ held).0 in
    let at = find (commit_has table row) (take 1 (drop (n - 1) past.commits)) h.1 in
    let first = at_take 1 at.place (drop (n - 1) past.commits) at.item at.there in
    let less = first.0 in
    let place : n - 1 + at.place ≡ n - 1 = omega (arith, less) in
    let then_there : slice_get past.commits (n - 1) ≡ Some at.item =
    ap (slice_get past.commits) (sym place) ∙ (sym (at_drop (n - 1) at.place past.commits) ∙ first.1) in
    record {
      above = ltb-true start n h.0;
      commit = at.item;
      made = ap (λ commits. slice_get commits (n - 1)) grown.is ∙ at_front past.commits grown.more
          (n - 1) at.item then_there;
      has = at.passes;
    }

-- who held the row in a state since the call, in which the transaction had that start
holder_found : (opened : List Table) (entries : List Entry) (past : Machine) (number moment start table row : ℕ)
    → (by : Holder)
    → slice_get (states_since opened number entries) moment ≡ Some past
    → Grown (state_after opened first_state entries).commits past.commits
    → holds_against opened past number start table row by ≡ true → HasHolder opened entries number start table row by
holder_found opened entries past number moment start table row (who.Commit n) at grown held =
    commit_found (state_after opened first_state entries) past number start n table row grown held
holder_found opened entries past number moment start table row (who.Transaction k) at grown held =
    let found = find_other (session_holds opened past start k table row) past.sessions number held in
    record {
      state = past;
      moment = moment;
      since = at;
      place = found.place;
      other = found.other;
      its = found.session;
      there = found.there;
      holds = found.passes;
    }

-- the start against which a row is held is that of the transaction that is open now
record HeldFrom (opened : List Table) (past : Machine) (number table row : ℕ) (by : Holder) : Type 0 where
  old : Session
  was : session_at past.sessions number ≡ Some old
  active : OpenTransaction
  opens : old.transaction ≡ state.Open active
  held : holds_against opened past number active.start table row by ≡ true

held_open : (opened : List Table) (past : Machine) (number table row : ℕ) (by : Holder) (old : Session)
    → (transaction : Transaction)
    → session_at past.sessions number ≡ Some old → old.transaction ≡ transaction
    → elim transaction as (λ x. Bool) [
      | state.Outside ↦ false
      | state.Aborted ↦ false
      | state.Open active ↦ holds_against opened past number active.start table row by
    ] ≡ true → HeldFrom opened past number table row by
held_open opened past number table row by old state.Outside was is held = absurd (false≢true held)
held_open opened past number table row by old state.Aborted was is held = absurd (false≢true held)
held_open opened past number table row by old (state.Open active) was is held =
    record { old = old; was = was; active = active; opens = is; held = held }

held_from : (opened : List Table) (past : Machine) (number table row : ℕ) (by : Holder) (found : Option Session)
    → session_at past.sessions number ≡ found
    → elim found as (λ x. Bool) [
      | None ↦ false
      | Some session ↦ elim session.transaction as (λ x. Bool) [
        | state.Outside ↦ false
        | state.Aborted ↦ false
        | state.Open active ↦ holds_against opened past number active.start table row by
      ]
    ] ≡ true → HeldFrom opened past number table row by
held_from opened past number table row by None is held = absurd (false≢true held)
held_from opened past number table row by (Some old) is held =
    held_open opened past number table row by old old.transaction is refl held

open_cause : (opened : List Table) (entries : List Entry) (number table row : ℕ) (by : Holder) (session : Session)
    → (active : OpenTransaction) (statement : Statement) → are_steps opened [] first_state entries ≡ true
    → session_at (state_after opened first_state entries).sessions number ≡ Some session
    → session.transaction ≡ state.Open active → session.asked ≡ Some (Good statement)
    → open_answers opened (state_after opened first_state entries).commits active statement (kind_of statement)
    (told.Refused (why.Conflict table row by)) ≡ true
    → Found (holds opened number table row by) (states_since opened number entries)
    → HasCause opened entries number table row by
open_cause opened entries number table row by session active statement steps is opens asks may at =
    let now = state_after opened first_state entries in
    let past = at.item in
    let from = held_from opened past number table row by (session_at past.sessions number) refl at.passes in
    let follows = since_follow opened entries number steps at.place past at.there in
    let asked : is_none session.asked ≡ false = ap is_none asks in
    let same = sym opens ∙ follows.stays from.old session from.active from.was from.opens is asked in
    let starts : from.active.start ≡ active.start = sym (ap start_of same) in
    let changed = row_is_changed opened now.commits active statement (kind_of statement) table row by may in
    record {
      session = session;
      is = is;
      active = active;
      open_so = opens;
      changes = ap (λ transaction. writes_row
          (write_set_in_flight opened now.commits transaction session.asked) table row) opens
          ∙ (ap (λ asked. writes_row
          (write_set_in_flight opened now.commits (state.Open active) asked) table row) asks ∙ changed);
      holder = holder_found opened entries past number at.place active.start table row by at.there follows.grown
          (subst (λ start. holds_against opened past number start table row by ≡ true) starts from.held);
    }

cause_of : (opened : List Table) (entries : List Entry) (number table row : ℕ) (by : Holder) (session : Session)
    → (transaction : Transaction) (asked : Asked) → are_steps opened [] first_state entries ≡ true
    → session_at (state_after opened first_state entries).sessions number ≡ Some session
    → session.transaction ≡ transaction → session.asked ≡ Some asked
    → may_answer opened (state_after opened first_state entries).commits transaction asked
    (told.Refused (why.Conflict table row by)) ≡ true
    → Found (holds opened number table row by) (states_since opened number entries)
    → HasCause opened entries number table row by
cause_of opened entries number table row by session transaction Unread steps is opens asks may at =
    absurd (false≢true may)
cause_of opened entries number table row by session transaction (Bad place) steps is opens asks may at =
    absurd (false≢true may)
cause_of opened entries number table row by session state.Outside (Good statement) steps is opens asks may at =
    absurd (never_outside (state_after opened first_state entries).commits (kind_of statement) table row by may)
cause_of opened entries number table row by session state.Aborted (Good statement) steps is opens asks may at =
    absurd (never_aborted (kind_of statement) table row by may)
cause_of opened entries number table row by session (state.Open active) (Good statement) steps is opens asks may at =
    open_cause opened entries number table row by session active statement steps is opens asks may at

replied_cause : (opened : List Table) (entries : List Entry) (number table row : ℕ) (by : Holder) (session : Session)
    → (asked : Option Asked)
    → are_steps opened [] first_state entries ≡ true
    → session_at (state_after opened first_state entries).sessions number ≡ Some session → session.asked ≡ asked
    → elim asked as (λ x. Bool) [
      | None ↦ false
      | Some asked ↦ may_answer opened (state_after opened first_state entries).commits session.transaction asked
          (told.Refused (why.Conflict table row by))
          && was_since_call (holds opened number table row by) opened number entries
    ] ≡ true → HasCause opened entries number table row by
replied_cause opened entries number table row by session None steps is asks may = absurd (false≢true may)
replied_cause opened entries number table row by session (Some asked) steps is asks may =
    let h = and_parts _ _ may in
    cause_of opened entries number table row by session session.transaction asked steps is refl asks h.0
    (find (holds opened number table row by) (states_since opened number entries) h.1)

found_cause : (opened : List Table) (entries : List Entry) (number table row : ℕ) (by : Holder) (found : Option Session)
    → are_steps opened [] first_state entries ≡ true
    → session_at (state_after opened first_state entries).sessions number ≡ found
    → if_there
    (may_reply opened number entries (state_after opened first_state entries)
    (told.Refused (why.Conflict table row by)))
    found ≡ true
    → HasCause opened entries number table row by
found_cause opened entries number table row by None steps is may = absurd (false≢true may)
found_cause opened entries number table row by (Some session) steps is may =
    replied_cause opened entries number table row by session session.asked steps is refl may

pub conflicts_have_causes : ConflictsHaveCauses
conflicts_have_causes opened entries number table row by steps step =
    found_cause opened entries number table row by
    (session_at (state_after opened first_state entries).sessions number) steps refl step
