-- Receipts are numbered as the commits are, one after the other.
use Rattle.std.proofs.Common.{◌≡◌, ⊎_elim, ℕ, suc, ◌+◌, Bool, true, false, List, [], ◌∷◌, ◌++◌, length, map, Option}
use Rattle.std.proofs.Common.{Some, None, option_to_list, ap, ◌∙◌, sym, refl, subst, arith, append-nil, append_assoc}
use Rattle.std.proofs.Common.{length-append}
use Rattle.std.specs.Prelude.{◌||◌, not, if◌then◌else◌}
use Rattle.std.proofs.lemmas.Bool.{false≢true, and_parts, or_cases, eqb-true}
use Rattle.dk_types.specs.declared.net.Commit.{Commit}
use Rattle.dk_types.specs.declared.net.TableNet.{TableNet}
use Rattle.dk_types.specs.declared.reply.Receipt.{Receipt}
use Rattle.dk_types.specs.declared.reply.Refusal.{Refusal}
use Rattle.dk_types.specs.declared.reply.Reply.{Reply}
use Rattle.dk_types.specs.declared.reply.Reply.TheVariants as told
use Rattle.dk_syntax.specs.declared.statement.Statement.{Statement}
use Rattle.dk_si.specs.declared.database.Table.{Table}
use Rattle.dk_si.specs.declared.history.Asked.{Asked}
use Rattle.dk_si.specs.declared.history.Asked.TheVariants.{Unread, Bad, Good}
use Rattle.dk_si.specs.declared.history.Entry.{Entry}
use Rattle.dk_si.specs.declared.history.Entry.TheVariants as history
use Rattle.dk_si.specs.declared.kind.Kind.{Kind}
use Rattle.dk_si.specs.declared.kind.Kind.TheVariants as form
use Rattle.dk_si.specs.declared.machine.OpenTransaction.{OpenTransaction}
use Rattle.dk_si.specs.declared.machine.Transaction.{Transaction}
use Rattle.dk_si.specs.declared.machine.Transaction.TheVariants as state
use Rattle.dk_si.specs.declared.machine.LastTransaction.{LastTransaction}
use Rattle.dk_si.specs.declared.machine.Session.{Session}
use Rattle.dk_si.specs.declared.machine.WriteSet.{WriteSet}
use Rattle.dk_si.specs.declared.machine.Machine.{Machine}
use Rattle.dk_si.specs.declared.meaning.Meaning.{Meaning}
use Rattle.dk_si.specs.declared.meaning.Meaning.TheVariants as meant
use Rattle.dk_si.specs.IsStep.{are_steps, is_step, may_reply, if_there}
use Rattle.dk_si.specs.Laws.{state_after}
use Rattle.dk_si.specs.Machine.{first_state, session_at, after_call}
use Rattle.dk_si.specs.Machine.{after_begin, after_reply, next, transition, creation, meaning_now}
use Rattle.dk_si.specs.Machine.{kind_of, is_own, stay_open, end_with, net_behind, asks_for, aborts}
use Rattle.dk_si.specs.MayAnswer.{outside_answers, aborted_answers, commit_answers, open_answers, may_answer}
use Rattle.dk_si.specs.MayAnswer.{is_creation}
use Rattle.dk_si.specs.Nets.{is_empty}
use Rattle.dk_laws.specs.ReceiptLaws.{receipt_of, entry_receipts, receipts, numbers_to, ReceiptsCountCommits}
use Rattle.dk_si.specs.Meaning.{is_text_refusal}
use Rattle.dk_si.specs.ReplyTests.{is_refused, is_no_memory, is_ended, is_committed, is_stopped, is_fault}
use Rattle.dk_si.proofs.TransitionLemmas.{session_of}

-- a reply has a receipt exactly where it is a commit, and then the next number behind so many commits
abbrev pub Numbered : ℕ → Option Commit → Option Receipt → Type 0
Numbered commits None None = Unit {0}
Numbered commits (Some commit) (Some receipt) = receipt.number ≡ commits + 1
Numbered commits None (Some receipt) = ⊥
Numbered commits (Some commit) None = ⊥

-- a refusal has none
refused_none : (test : Refusal → Bool) (reply : Reply) → is_refused test reply ≡ true → receipt_of reply ≡ None
refused_none test (told.Refused refusal) e = refl
refused_none test other e = absurd (false≢true e)

outside_none : (commits : List Commit) (kind : Kind) (reply : Reply) → outside_answers commits kind reply ≡ true
    → receipt_of reply ≡ None
outside_none commits form.Checkpoint (told.Checkpointed iteration) e = refl
outside_none commits form.Checkpoint (told.Refused refusal) e = refl
outside_none commits form.Checkpoint other e = absurd (false≢true e)
outside_none commits kind (told.Refused refusal) e = refl
outside_none commits kind other e = absurd (false≢true e)

aborted_none : (kind : Kind) (reply : Reply) → aborted_answers kind reply ≡ true → receipt_of reply ≡ None
aborted_none form.Rollback told.Ended e = refl
aborted_none form.Rollback other e = absurd (false≢true e)
aborted_none kind (told.Refused refusal) e = refl
aborted_none kind other e = absurd (false≢true e)

own_none : (own : Bool) (active : OpenTransaction) (ended net : List TableNet)
    → (if own then end_with ended None else stay_open active net).commit ≡ None
own_none true active ended net = refl
own_none false active ended net = refl

refusal_none : (own aborted : Bool) (active : OpenTransaction)
    → (if own then end_with active.net None
    else (if aborted then record { transaction = state.Aborted; commit = None; net = active.net }
    else stay_open active active.net)).commit
    ≡ None
refusal_none true aborted active = refl
refusal_none false true active = refl
refusal_none false false active = refl

neither : (commits : ℕ) (commit : Option Commit) → commit ≡ None → Numbered commits commit None
neither commits commit is = subst (λ now. Numbered commits now None) (sym is) tt

created_numbered : (commits : ℕ) (meaning : Meaning) (receipt : Receipt) → is_creation meaning ≡ true → receipt.number
    ≡ commits + 1
    → Numbered commits (creation meaning) (Some receipt)
created_numbered commits (meant.Create name schema) receipt is number = number
created_numbered commits other receipt is number = absurd (false≢true is)

first_of : (fresh test : Bool) → (if fresh then test else false) ≡ true → test ≡ true
first_of true test e = e
first_of false test e = absurd (false≢true e)

-- a COMMIT is answered no receipt of another kind
commit_never : (commits : List Commit) (net : List TableNet) (reply : Reply) → is_ended reply ≡ false
    → (is_committed commits reply || is_refused (λ refusal. is_stopped commits refusal || is_fault refusal) reply)
    ≡ false
    → commit_answers commits net reply ≡ true → ⊥
commit_never commits [] reply ended committed e = false≢true (sym ended ∙ e)
commit_never commits (part ∷ net) reply ended committed e = false≢true (sym committed ∙ e)

-- a creation is answered to a CREATE TABLE that means one
created : (opened : List Table) (commits : List Commit) (active : OpenTransaction) (statement : Statement)
    → (receipt : Receipt) (kind : Kind)
    → open_answers opened commits active statement kind (told.Created receipt) ≡ true
    → Numbered (length commits) (creation (meaning_now opened commits (Some (Good statement)))) (Some receipt)
created opened commits active statement receipt form.Create e =
    let h = and_parts _ _ (first_of active.fresh _ e) in
    created_numbered (length commits) (meaning_now opened commits (Some (Good statement))) receipt h.0
    (eqb-true receipt.number (length commits + 1) h.1)
created opened commits active statement receipt form.Begin e = absurd (false≢true (first_of active.fresh false e))
created opened commits active statement receipt form.Commit e =
    absurd (commit_never commits active.net (told.Created receipt) refl refl e)
created opened commits active statement receipt other e = absurd (false≢true e)

-- a COMMIT is answered so where it commits
pub committed : (opened : List Table) (commits : List Commit) (active : OpenTransaction) (statement : Statement)
    → (receipt : Receipt)
    → (kind : Kind) → open_answers opened commits active statement kind (told.Committed receipt) ≡ true
    → (receipt.number ≡ length commits + 1) × (is_empty active.net ≡ false)
committed opened commits active statement receipt form.Commit e = next_number active.net e
  where
    next_number : (net : List TableNet) → commit_answers commits net (told.Committed receipt) ≡ true
        → (receipt.number ≡ length commits + 1) × (is_empty net ≡ false)
    next_number [] e = absurd (false≢true e)
    next_number (part ∷ net) e =
        (⊎_elim (eqb-true receipt.number (length commits + 1)) (λ h. absurd (false≢true h)) (or_cases _ _ e), refl)
committed opened commits active statement receipt form.Create e = absurd (false≢true (first_of active.fresh false e))
committed opened commits active statement receipt form.Begin e = absurd (false≢true (first_of active.fresh false e))
committed opened commits active statement receipt other e = absurd (false≢true e)

-- a change has the next receipt where it commits
pub changed : (opened : List Table) (commits : List Commit) (active : OpenTransaction) (statement : Statement)
    → (count : ℕ)
    → (receipt : Receipt) (kind : Kind)
    → open_answers opened commits active statement kind (told.Changed count (Some receipt)) ≡ true
    → (receipt.number ≡ length commits + 1)
    × (not (is_empty (net_behind opened commits active (Some (Good statement)))) ≡ true)
changed opened commits active statement count receipt form.Change e =
    let h = and_parts _ _ (and_parts _ _ e).1 in
    (eqb-true receipt.number (length commits + 1) h.1, (and_parts _ _ h.0).1)
changed opened commits active statement count receipt form.Create e =
    absurd (false≢true (first_of active.fresh false e))
changed opened commits active statement count receipt form.Begin e = absurd (false≢true (first_of active.fresh false e))
changed opened commits active statement count receipt form.Commit e =
    absurd (commit_never commits active.net (told.Changed count (Some receipt)) refl refl e)
changed opened commits active statement count receipt form.Rollback e = absurd (false≢true e)
changed opened commits active statement count receipt form.Checkpoint e = absurd (false≢true e)
changed opened commits active statement count receipt form.Select e = absurd (false≢true e)

abbrev Counted : List Table → List Commit → OpenTransaction → Option Asked → Reply → Type 0
Counted opened commits active asked reply =
    Numbered (length commits) (transition opened commits active asked reply).commit (receipt_of reply)

statement_counted : (opened : List Table) (commits : List Commit) (active : OpenTransaction) (statement : Statement)
    → (reply : Reply)
    → open_answers opened commits active statement (kind_of statement) reply ≡ true
    → Counted opened commits active (Some (Good statement)) reply
statement_counted opened commits active statement (told.Created receipt) e =
    created opened commits active statement receipt (kind_of statement) e
statement_counted opened commits active statement (told.Changed count (Some receipt)) e =
    (changed opened commits active statement count receipt (kind_of statement) e).0
statement_counted opened commits active statement (told.Changed count None) e =
    let net = net_behind opened commits active (Some (Good statement)) in
    neither (length commits) _ (own_none (is_own active (Some (Good statement))) active net net)
statement_counted opened commits active statement (told.Committed receipt) e =
    (committed opened commits active statement receipt (kind_of statement) e).0
statement_counted opened commits active statement (told.Rows rows) e =
    neither (length commits) _ (own_none (is_own active (Some (Good statement))) active active.net active.net)
statement_counted opened commits active statement (told.Begun start) e = tt
statement_counted opened commits active statement told.Ended e = tt
statement_counted opened commits active statement (told.Checkpointed iteration) e = tt
statement_counted opened commits active statement (told.Refused refusal) e =
    neither (length commits) _
    (refusal_none (is_own active (Some (Good statement))) (asks_for (aborts refusal) (Some (Good statement))) active)

-- a call that wasn't read is refused
unread_counted : (opened : List Table) (commits : List Commit) (active : OpenTransaction) (asked : Option Asked)
    → (test : Refusal → Bool)
    → (reply : Reply) → is_refused test reply ≡ true → Counted opened commits active asked reply
unread_counted opened commits active asked test (told.Refused refusal) e =
    neither (length commits) _ (refusal_none (is_own active asked) (asks_for (aborts refusal) asked) active)
unread_counted opened commits active asked test other e = absurd (false≢true e)

open_counted : (opened : List Table) (commits : List Commit) (active : OpenTransaction) (asked : Asked) (reply : Reply)
    → may_answer opened commits (state.Open active) asked reply ≡ true
    → Counted opened commits active (Some asked) reply
open_counted opened commits active Unread reply e =
    unread_counted opened commits active (Some Unread) is_no_memory reply e
open_counted opened commits active (Bad at) reply e =
    unread_counted opened commits active (Some (Bad at)) (is_text_refusal at) reply e
open_counted opened commits active (Good statement) reply e = statement_counted opened commits active statement reply e

abbrev numbers_of : List Receipt → List ℕ
numbers_of list = map (λ receipt. receipt.number) list

-- the commits behind these receipts are as many more
abbrev Counts : List Commit → List Commit → List Receipt → Type 0
Counts before now list = numbers_to (length now) ≡ numbers_to (length before) ++ numbers_of list

none_counts : (commits : List Commit) → Counts commits commits []
none_counts commits = sym (append-nil (numbers_to (length commits)))

numbered_counts : (commits : List Commit) (commit : Option Commit) (receipt : Option Receipt)
    → Numbered (length commits) commit receipt
    → Counts commits (commits ++ option_to_list commit) (option_to_list receipt)
numbered_counts commits None None number =
    ap (λ list. numbers_to (length list)) (append-nil commits) ∙ none_counts commits
numbered_counts commits (Some commit) (Some receipt) number =
    let long : length (commits ++ commit ∷ []) ≡ suc (length commits) = omega
    (arith, length-append commits (commit ∷ [])) in
    let next : suc (length commits) ≡ receipt.number = omega (arith, number) in
    ap numbers_to long ∙ ap (λ n. numbers_to (length commits) ++ n ∷ []) next
numbered_counts commits None (Some receipt) number = absurd number
numbered_counts commits (Some commit) None number = absurd number

untold : (commits : List Commit) (reply : Reply) → receipt_of reply ≡ None
    → Counts commits commits (option_to_list (receipt_of reply))
untold commits reply none =
    subst (λ found. Counts commits commits (option_to_list found)) (sym none) (none_counts commits)

outside_counts : (opened : List Table) (commits : List Commit) (asked : Asked) (reply : Reply)
    → may_answer opened commits state.Outside asked reply ≡ true → receipt_of reply ≡ None
outside_counts opened commits Unread reply e = refused_none is_no_memory reply e
outside_counts opened commits (Bad at) reply e = refused_none (is_text_refusal at) reply e
outside_counts opened commits (Good statement) reply e = outside_none commits (kind_of statement) reply e

aborted_counts : (opened : List Table) (commits : List Commit) (asked : Asked) (reply : Reply)
    → may_answer opened commits state.Aborted asked reply ≡ true → receipt_of reply ≡ None
aborted_counts opened commits Unread reply e = refused_none is_no_memory reply e
aborted_counts opened commits (Bad at) reply e = refused_none (is_text_refusal at) reply e
aborted_counts opened commits (Good statement) reply e = aborted_none (kind_of statement) reply e

reply_counts : (opened : List Table) (before : List Entry) (machine : Machine) (number : ℕ) (reply : Reply)
    → (transaction : Transaction) (asked : Option Asked) (written : Option WriteSet) (last : Option LastTransaction)
    → may_reply opened number before machine reply (session_of transaction asked written last) ≡ true
    → Counts machine.commits
    (after_reply opened machine number (session_of transaction asked written last) reply).commits
    (option_to_list (receipt_of reply))
reply_counts opened before machine number reply transaction None written last may = absurd (false≢true may)
reply_counts opened before machine number reply state.Outside (Some asked) written last may =
    untold machine.commits reply (outside_counts opened machine.commits asked reply (and_parts _ _ may).0)
reply_counts opened before machine number reply state.Aborted (Some asked) written last may =
    untold machine.commits reply (aborted_counts opened machine.commits asked reply (and_parts _ _ may).0)
reply_counts opened before machine number reply (state.Open active) (Some asked) written last may =
    numbered_counts machine.commits (transition opened machine.commits active (Some asked) reply).commit
    (receipt_of reply)
    (open_counted opened machine.commits active asked reply (and_parts _ _ may).0)

-- an entry that commits nothing
none_more : (machine : Machine) (behind : Session → Machine)
    → ((before : Session) → machine.commits ≡ (behind before).commits) → (found : Option Session)
    → Counts machine.commits
    (elim found as (λ x. Machine) [ None ↦ machine | Some before ↦ behind before ]).commits []
none_more machine behind same None = none_counts machine.commits
none_more machine behind same (Some before) =
    subst (λ now. Counts machine.commits now []) (same before) (none_counts machine.commits)

found_counts : (opened : List Table) (before : List Entry) (machine : Machine) (number : ℕ) (reply : Reply)
    → (found : Option Session)
    → if_there (may_reply opened number before machine reply) found ≡ true
    → Counts machine.commits
    (elim found as (λ x. Machine) [
      | None ↦ machine
      | Some session ↦ after_reply opened machine number session reply
    ]).commits
    (option_to_list (receipt_of reply))
found_counts opened before machine number reply None may = absurd (false≢true may)
found_counts opened before machine number reply (Some session) may =
    reply_counts opened before machine number reply session.transaction session.asked session.writes session.last may

step_counts : (opened : List Table) (before : List Entry) (machine : Machine) (entry : Entry)
    → is_step opened before machine entry ≡ true
    → Counts machine.commits (next opened machine entry).commits (entry_receipts entry)
step_counts opened before machine (history.Call session asked) step =
    none_more machine (λ before. after_call machine session asked before) (λ before. refl)
    (session_at machine.sessions session)
step_counts opened before machine (history.Begun session number start) step =
    none_more machine (λ before. after_begin machine session number start before) (λ before. refl)
    (session_at machine.sessions session)
step_counts opened before machine (history.Reply session reply) step =
    found_counts opened before machine session reply (session_at machine.sessions session) step

numbers_append : (xs ys : List Receipt) → numbers_of (xs ++ ys) ≡ numbers_of xs ++ numbers_of ys
numbers_append [] ys = refl
numbers_append (x ∷ xs) ys = ap (λ list. x.number ∷ list) (numbers_append xs ys)

both_count : (first now after : List Commit) (xs ys : List Receipt) → Counts first now xs → Counts now after ys
    → Counts first after (xs ++ ys)
both_count first now after xs ys one more =
    more ∙ (ap (λ list. list ++ numbers_of ys) one
    ∙ (append_assoc (numbers_to (length first)) (numbers_of xs) (numbers_of ys)
    ∙ ap (λ list. numbers_to (length first) ++ list) (sym (numbers_append xs ys))))

steps_count : (opened : List Table) (before : List Entry) (machine : Machine) (entries : List Entry)
    → are_steps opened before machine entries ≡ true
    → Counts machine.commits (state_after opened machine entries).commits (receipts entries)
steps_count opened before machine [] steps = none_counts machine.commits
steps_count opened before machine (entry ∷ entries) steps =
    let h = and_parts _ _ steps in
    let now = next opened machine entry in
    both_count machine.commits now.commits (state_after opened now entries).commits (entry_receipts entry)
    (receipts entries)
    (step_counts opened before machine entry h.0) (steps_count opened (before ++ entry ∷ []) now entries h.1)

pub receipts_count_commits : ReceiptsCountCommits
receipts_count_commits opened entries steps = sym (steps_count opened [] first_state entries steps)
