-- In a history of one thread a reply is a function of the calls.
use Rattle.std.proofs.Common.{◌≡◌, inl, inr, ℕ, ◌+◌, ◌-◌, ◌≤◌, Bool, true, false, List, [], ◌∷◌, length, Option, Some}
use Rattle.std.proofs.Common.{None, ap, ◌∙◌, sym, refl, subst, arith}
use Rattle.std.specs.Prelude.{◌&&◌, ◌||◌, is_none, not, option_map, ◌==◌, if◌then◌else◌}
use Rattle.std.proofs.lemmas.Bool.{false≢true, and_parts, or_cases, not-true, eqb-true, ne_eqb, leb-true}
use Rattle.dk_types.specs.declared.net.Commit.{Commit}
use Rattle.dk_types.specs.declared.net.TableNet.{TableNet}
use Rattle.dk_syntax.specs.declared.statement.Statement.{Statement}
use Rattle.dk_types.specs.declared.reply.Exhausted.{Exhausted}
use Rattle.dk_types.specs.declared.reply.Holder.{Holder}
use Rattle.dk_types.specs.declared.reply.Receipt.{Receipt}
use Rattle.dk_types.specs.declared.reply.Reply.{Reply}
use Rattle.dk_types.specs.declared.reply.Reply.TheVariants as told
use Rattle.dk_types.specs.declared.reply.Refusal.{Refusal}
use Rattle.dk_types.specs.declared.reply.Refusal.TheVariants as why
use Rattle.dk_si.specs.declared.database.Table.{Table}
use Rattle.dk_si.specs.declared.meaning.Meaning.{Meaning}
use Rattle.dk_si.specs.declared.meaning.Meaning.TheVariants as meant
use Rattle.dk_si.specs.declared.history.Asked.{Asked}
use Rattle.dk_si.specs.declared.history.Asked.TheVariants.{Unread, Bad, Good}
use Rattle.dk_si.specs.declared.history.Entry.{Entry}
use Rattle.dk_si.specs.declared.kind.Kind.{Kind}
use Rattle.dk_si.specs.declared.kind.Kind.TheVariants as form
use Rattle.dk_si.specs.declared.machine.OpenTransaction.{OpenTransaction}
use Rattle.dk_si.specs.declared.machine.Transaction.{Transaction}
use Rattle.dk_si.specs.declared.machine.Transaction.TheVariants as state
use Rattle.dk_si.specs.declared.machine.WriteSet.{WriteSet}
use Rattle.dk_si.specs.declared.machine.Session.{Session}
use Rattle.dk_si.specs.declared.machine.Machine.{Machine}
use Rattle.dk_si.specs.declared.limits.TheConstants.{MAX_ITERATION}
use Rattle.dk_si.specs.Database.{after}
use Rattle.dk_si.specs.Nets.{has_id, is_empty}
use Rattle.dk_si.specs.Weight.{cap}
use Rattle.dk_si.specs.Meaning.{meaning, is_text_refusal, is_same_refusal}
use Rattle.dk_si.specs.Machine.{kind_of, asks_for, meaning_in, write_set, write_set_in_flight, net_after, begins_one}
use Rattle.dk_si.specs.HeldRows.{is_blocked, writes_row}
use Rattle.dk_si.specs.ReplyTests.{is_refused, is_no_memory, is_no_transaction, is_in_transaction, is_aborted, is_ended}
use Rattle.dk_si.specs.ReplyTests.{is_begun, is_next, is_fault, is_stopped, is_spent_refusal, has_no_iteration}
use Rattle.dk_si.specs.Spent.{committed_rows}
use Rattle.dk_si.specs.MayAnswer.{checkpoint_answers, outside_answers, aborted_answers, commit_answers}
use Rattle.dk_si.specs.MayAnswer.{is_meant_refusal, are_meant_rows, select_answers, is_creation, is_refused_from}
use Rattle.dk_si.specs.MayAnswer.{create_answers, is_that_refusal, is_change_of, is_any_change, is_receipt_for}
use Rattle.dk_si.specs.MayAnswer.{is_change_refusal, is_change_reply, open_answers, statement_answers, may_answer}
use Rattle.dk_si.specs.IsStep.{none_blocked, start_of, is_founded}
use Rattle.dk_si.specs.Size.{size_refusal}
use Rattle.dk_si.specs.OneThread.{is_least_held, held_alone, is_conflict_alone, is_spent_alone, are_spent_numbers}
use Rattle.dk_si.specs.OneThread.{may_reply_alone, none_in_flight}
use Rattle.dk_si.specs.Answer.{next_receipt, holder_of, least_blocked, answer_spent, answer_checkpoint, answer_outside}
use Rattle.dk_si.specs.Answer.{answer_aborted, answer_commit, answer_create, answer_select, answer_rows, answer_net}
use Rattle.dk_si.specs.Answer.{answer_change, answer_open, answer_statement, answer, timeless_receipt, timeless}
use Rattle.dk_alone.specs.AnswerLaws.{is_fault_or_stop, is_plain}
use Rattle.dk_si.specs.Exchanges.{is_checkpoint}
use Rattle.dk_si.proofs.MeaningLemmas.{same_rows_are_equal}
use Rattle.dk_si.proofs.HolderLemmas.{sees_all, HasOneHolder, not_both, least_is, least_none, holder_is}

-- a checkpoint is answered the iteration behind this one, or that this one is the last
abbrev pub follows : ℕ → Reply → Bool
follows iteration (told.Checkpointed n) = n == iteration + 1
follows iteration (told.Refused refusal) = not (has_no_iteration refusal) || iteration == MAX_ITERATION
follows iteration other = true

-- a reply that no fault made
abbrev Plain : Reply → Type 0
Plain reply = not (is_refused is_fault_or_stop reply) ≡ true

refused_as : (test : Refusal → Bool) (refusal : Refusal) → ((other : Refusal) → test other ≡ true → other ≡ refusal)
    → (reply : Reply)
    → is_refused test reply ≡ true → timeless reply ≡ told.Refused refusal
refused_as test refusal only (told.Refused other) e = ap told.Refused (only other e)
refused_as test refusal only reply e = absurd (false≢true e)

no_memory : (other : Refusal) → is_no_memory other ≡ true → other ≡ why.OutOfMemory
no_memory why.OutOfMemory e = refl
no_memory other e = absurd (false≢true e)

no_transaction : (other : Refusal) → is_no_transaction other ≡ true → other ≡ why.NoTransaction
no_transaction why.NoTransaction e = refl
no_transaction other e = absurd (false≢true e)

in_transaction : (other : Refusal) → is_in_transaction other ≡ true → other ≡ why.InTransaction
in_transaction why.InTransaction e = refl
in_transaction other e = absurd (false≢true e)

aborted_before : (other : Refusal) → is_aborted other ≡ true → other ≡ why.Aborted
aborted_before why.Aborted e = refl
aborted_before other e = absurd (false≢true e)

text_refusal : (at : ℕ) (other : Refusal) → is_text_refusal at other ≡ true → other ≡ why.Syntax at
text_refusal at (why.Syntax place) e = ap why.Syntax (eqb-true place at e)
text_refusal at other e = absurd (false≢true e)

same_refusal : (a b : Refusal) → is_same_refusal a b ≡ true → a ≡ b
same_refusal (why.NoTable a) (why.NoTable b) e = ap why.NoTable (eqb-true a b e)
same_refusal (why.NoColumn a) (why.NoColumn b) e = ap why.NoColumn (eqb-true a b e)
same_refusal (why.TypeMismatch a) (why.TypeMismatch b) e = ap why.TypeMismatch (eqb-true a b e)
same_refusal (why.SameColumn a) (why.SameColumn b) e = ap why.SameColumn (eqb-true a b e)
same_refusal (why.NotGrouped a) (why.NotGrouped b) e = ap why.NotGrouped (eqb-true a b e)
same_refusal (why.TableExists a) (why.TableExists b) e = ap why.TableExists (eqb-true a b e)
same_refusal (why.OutOfRange a) (why.OutOfRange b) e = ap why.OutOfRange (eqb-true a b e)
same_refusal why.TooManyTables why.TooManyTables e = refl
same_refusal why.Unsupported why.Unsupported e = refl
same_refusal (why.BadField a b) (why.BadField c d) e =
    let h = and_parts (a == c) (b == d) e in
    ap (λ n. why.BadField n b) (eqb-true a c h.0) ∙ ap (why.BadField c) (eqb-true b d h.1)
same_refusal (why.TooLarge a b) (why.TooLarge c d) e =
    let h = and_parts (a == c) (b == d) e in
    ap (λ n. why.TooLarge n b) (eqb-true a c h.0) ∙ ap (why.TooLarge c) (eqb-true b d h.1)
same_refusal a b e = absurd (false≢true e)

ended : (reply : Reply) → is_ended reply ≡ true → timeless reply ≡ told.Ended
ended told.Ended e = refl
ended reply e = absurd (false≢true e)

begun : (start : ℕ) (reply : Reply) → is_begun start reply ≡ true → timeless reply ≡ told.Begun start
begun start (told.Begun at) e = ap told.Begun (eqb-true at start e)
begun start reply e = absurd (false≢true e)

receipts : (commits : List Commit) (receipt : Receipt) → is_next commits receipt ≡ true
    → timeless_receipt receipt ≡ next_receipt commits
receipts commits receipt e =
    ap (λ n. record { number = n; moment = 0 }) (eqb-true receipt.number (length commits + 1) e)

-- faults and stops are told
fault_told : (refusal : Refusal) → is_fault refusal ≡ true → is_fault_or_stop refusal ≡ true
fault_told (why.DiskFault stops) e = refl
fault_told (why.Damaged damage) e = refl
fault_told why.OutOfMemory e = refl
fault_told refusal e = absurd (false≢true e)

stop_told : (commits : List Commit) (refusal : Refusal) → is_stopped commits refusal ≡ true
    → is_fault_or_stop refusal ≡ true
stop_told commits (why.Stopped first) e = refl
stop_told commits refusal e = absurd (false≢true e)

left : (a b : Bool) → (a || b) ≡ true → (b ≡ true → ⊥) → a ≡ true
left a b e not_b = elim (or_cases a b e) [ inl on ↦ on | inr other ↦ absurd (not_b other) ]

no_fault : (refusal : Refusal) → Plain (told.Refused refusal) → is_fault refusal ≡ true → ⊥
no_fault refusal plain e = not_both (fault_told refusal e) (not-true _ plain)

no_stop : (commits : List Commit) (refusal : Refusal) → Plain (told.Refused refusal)
    → (is_stopped commits refusal || is_fault refusal) ≡ true → ⊥
no_stop commits refusal plain e = elim (or_cases (is_stopped commits refusal) (is_fault refusal) e) [
  | inl stop ↦ not_both (stop_told commits refusal stop) (not-true _ plain)
  | inr fault ↦ no_fault refusal plain fault
]

-- numbers that have no next one
numbers_are : (numbers : Exhausted) (clock rows transactions iteration : ℕ) → numbers.clock ≡ clock
    → numbers.rows ≡ rows
    → numbers.transactions ≡ transactions → numbers.iteration ≡ iteration
    → numbers ≡ record { clock = clock; rows = rows; transactions = transactions; iteration = iteration }
numbers_are numbers clock rows transactions iteration a b c d =
    ap (λ n. record {
      clock = n;
      rows = numbers.rows;
      transactions = numbers.transactions;
      iteration = numbers.iteration;
    }) a
    ∙ (ap (λ n. record { clock = clock; rows = n; transactions = numbers.transactions; iteration = numbers.iteration })
    b
    ∙ (ap (λ n. record { clock = clock; rows = rows; transactions = n; iteration = numbers.iteration }) c
    ∙ ap (λ n. record { clock = clock; rows = rows; transactions = transactions; iteration = n }) d))

spent : (opened : List Table) (machine : Machine) (numbers : Exhausted)
    → are_spent_numbers opened machine numbers ≡ true
    → told.Refused (why.Exhausted numbers) ≡ answer_spent opened machine
spent opened machine numbers e =
    let h = and_parts _ _ e in
    let a = and_parts _ _ h.0 in
    let b = and_parts _ _ h.1 in
    ap (λ n. told.Refused (why.Exhausted n))
    (numbers_are numbers 0 (cap (committed_rows opened machine.commits)) machine.begun 0 (eqb-true _ _ a.0)
    (eqb-true _ _ b.1) (eqb-true _ _ b.0) (eqb-true _ _ a.1))

spent_told : (opened : List Table) (machine : Machine) (number : ℕ) (asked : Option Asked) (reply : Reply)
    → asks_for begins_one asked ≡ true → is_refused is_spent_refusal reply ≡ true
    → may_reply_alone opened machine number state.Outside asked reply ≡ true
    → timeless reply ≡ answer_spent opened machine
spent_told opened machine number asked (told.Refused (why.Exhausted numbers)) begins e alone =
    let spends = subst (λ b. (not b || (is_spent_alone opened machine && are_spent_numbers opened machine numbers)) ≡
    true) begins alone in
    spent opened machine numbers (and_parts (is_spent_alone opened machine) (are_spent_numbers opened machine numbers)
    spends).1
spent_told opened machine number asked (told.Refused refusal) begins e alone = absurd (false≢true e)
spent_told opened machine number asked reply begins e alone = absurd (false≢true e)

last_iteration : (iteration : ℕ) (refusal : Refusal) → has_no_iteration refusal ≡ true → iteration ≡ MAX_ITERATION
    → told.Refused refusal ≡ answer_checkpoint iteration
last_iteration iteration (why.Exhausted numbers) e last =
    let h = and_parts _ _ e in
    let a = and_parts _ _ h.0 in
    let b = and_parts _ _ h.1 in
    ap (λ n. told.Refused (why.Exhausted n))
    (numbers_are numbers 0 0 0 MAX_ITERATION (eqb-true _ _ a.0) (eqb-true _ _ a.1) (eqb-true _ _ b.0)
    (eqb-true _ _ b.1))
    ∙ sym (ap answer_checkpoint last)
last_iteration iteration refusal e last = absurd (false≢true e)

not_last : (iteration n most : ℕ) → n ≤ most → n ≡ iteration + 1 → iteration ≡ most → ⊥
not_last iteration n most le is last = omega (arith, le, is, last)

checkpoint : (commits : List Commit) (iteration : ℕ) (reply : Reply) → checkpoint_answers commits reply ≡ true
    → Plain reply
    → follows iteration reply ≡ true → timeless reply ≡ answer_checkpoint iteration
checkpoint commits iteration (told.Checkpointed n) e plain next =
    let is = eqb-true n (iteration + 1) next in
    let other = ne_eqb iteration MAX_ITERATION (not_last iteration n MAX_ITERATION (leb-true n MAX_ITERATION e) is) in
    ap told.Checkpointed is
    ∙ sym (ap (λ b. if b then told.Refused (why.Exhausted
    (record { clock = 0; rows = 0; transactions = 0; iteration = MAX_ITERATION })) else told.Checkpointed
    (iteration + 1)) other)
checkpoint commits iteration (told.Refused refusal) e plain next =
    let none = left (has_no_iteration refusal) _ e (no_stop commits refusal plain) in
    let last = subst (λ b. (not b || iteration == MAX_ITERATION) ≡ true) none next in
    last_iteration iteration refusal none (eqb-true iteration MAX_ITERATION last)
checkpoint commits iteration reply e plain next = absurd (false≢true e)

outside : (opened : List Table) (iteration number : ℕ) (machine : Machine) (asked : Option Asked) (kind : Kind)
    (reply : Reply)
    → asks_for begins_one asked ≡ begins_one kind → outside_answers machine.commits kind reply ≡ true
    → may_reply_alone opened machine number state.Outside asked reply ≡ true → Plain reply
    → (is_checkpoint kind ≡ true → follows iteration reply ≡ true)
    → timeless reply ≡ answer_outside opened iteration machine kind
outside opened iteration number machine asked form.Commit reply begins e alone plain next =
    refused_as is_no_transaction why.NoTransaction no_transaction reply e
outside opened iteration number machine asked form.Rollback reply begins e alone plain next =
    refused_as is_no_transaction why.NoTransaction no_transaction reply e
outside opened iteration number machine asked form.Checkpoint reply begins e alone plain next =
    checkpoint machine.commits iteration reply e plain (next refl)
outside opened iteration number machine asked form.Begin reply begins e alone plain next =
    spent_told opened machine number asked reply begins e alone
outside opened iteration number machine asked form.Create reply begins e alone plain next =
    spent_told opened machine number asked reply begins e alone
outside opened iteration number machine asked form.Select reply begins e alone plain next =
    spent_told opened machine number asked reply begins e alone
outside opened iteration number machine asked form.Change reply begins e alone plain next =
    spent_told opened machine number asked reply begins e alone

aborted : (kind : Kind) (reply : Reply) → aborted_answers kind reply ≡ true → timeless reply ≡ answer_aborted kind
aborted form.Rollback reply e = ended reply e
aborted form.Begin reply e = refused_as is_aborted why.Aborted aborted_before reply e
aborted form.Commit reply e = refused_as is_aborted why.Aborted aborted_before reply e
aborted form.Checkpoint reply e = refused_as is_aborted why.Aborted aborted_before reply e
aborted form.Create reply e = refused_as is_aborted why.Aborted aborted_before reply e
aborted form.Select reply e = refused_as is_aborted why.Aborted aborted_before reply e
aborted form.Change reply e = refused_as is_aborted why.Aborted aborted_before reply e

commit : (commits : List Commit) (net : List TableNet) (reply : Reply) → commit_answers commits net reply ≡ true
    → Plain reply
    → timeless reply ≡ answer_commit commits net
commit commits [] reply e plain = ended reply e
commit commits (part ∷ net) (told.Committed receipt) e plain =
    ap told.Committed (receipts commits receipt (left (is_next commits receipt) false e false≢true))
commit commits (part ∷ net) (told.Refused refusal) e plain = absurd (no_stop commits refusal plain e)
commit commits (part ∷ net) reply e plain = absurd (false≢true e)

meant_refusal : (meaning : Meaning) (refusal : Refusal) → is_meant_refusal meaning refusal ≡ true
    → meaning ≡ meant.Refused refusal
meant_refusal (meant.Refused other) refusal e = ap meant.Refused (same_refusal other refusal e)
meant_refusal (meant.Rows rows) refusal e = absurd (false≢true e)
meant_refusal (meant.Change count part) refusal e = absurd (false≢true e)
meant_refusal (meant.Create name schema) refusal e = absurd (false≢true e)
meant_refusal meant.Nothing refusal e = absurd (false≢true e)

select_rows : (meaning : Meaning) (rows : _) → are_meant_rows meaning rows ≡ true
    → told.Rows rows ≡ answer_select meaning
select_rows (meant.Rows others) rows e = ap told.Rows (sym (same_rows_are_equal others rows e))
select_rows (meant.Refused refusal) rows e = absurd (false≢true e)
select_rows (meant.Change count part) rows e = absurd (false≢true e)
select_rows (meant.Create name schema) rows e = absurd (false≢true e)
select_rows meant.Nothing rows e = absurd (false≢true e)

select : (meaning : Meaning) (reply : Reply) → select_answers meaning reply ≡ true → Plain reply
    → timeless reply ≡ answer_select meaning
select meaning (told.Rows rows) e plain = select_rows meaning rows e
select meaning (told.Refused refusal) e plain =
    sym (ap answer_select (meant_refusal meaning refusal
    (left (is_meant_refusal meaning refusal) (is_fault refusal) e (no_fault refusal plain))))
select meaning reply e plain = absurd (false≢true e)

creation_answer : (commits : List Commit) (meaning : Meaning) → is_creation meaning ≡ true
    → told.Created (next_receipt commits) ≡ answer_create commits meaning
creation_answer commits (meant.Create name schema) e = refl
creation_answer commits (meant.Rows rows) e = absurd (false≢true e)
creation_answer commits (meant.Refused refusal) e = absurd (false≢true e)
creation_answer commits (meant.Change count part) e = absurd (false≢true e)
creation_answer commits meant.Nothing e = absurd (false≢true e)

-- a statement whose start is the last commit is refused in its state
refused_now : (opened : List Table) (commits : List Commit) (statement : Statement) (refusal : Refusal) (start : ℕ)
    → start ≡ length commits
    → is_refused_from opened commits statement refusal start (length commits - start) ≡ true
    → is_meant_refusal (meaning (after opened commits (length commits)) statement) refusal ≡ true
refused_now opened commits statement refusal start last e =
    let none : length commits - start ≡ 0 = omega (arith, last) in
    sym (ap (λ n. is_refused_from opened commits statement refusal start n) none
    ∙ ap (λ n. is_meant_refusal (meaning (after opened commits n) statement) refusal) last) ∙ e

create : (opened : List Table) (commits : List Commit) (active : OpenTransaction) (statement : Statement)
    (reply : Reply)
    → create_answers opened commits active statement reply ≡ true → Plain reply → active.start ≡ length commits
    → timeless reply ≡ answer_create commits (meaning (after opened commits (length commits)) statement)
create opened commits active statement (told.Created receipt) e plain last =
    let h = and_parts _ _ e in
    ap told.Created (receipts commits receipt h.1) ∙ creation_answer commits
    (meaning (after opened commits (length commits)) statement) h.0
create opened commits active statement (told.Refused refusal) e plain last =
    let some = left (is_refused_from opened commits statement refusal active.start (length commits - active.start)) _ e
    (no_stop commits refusal plain) in
    sym (ap (answer_create commits) (meant_refusal _ refusal
    (refused_now opened commits statement refusal active.start last some)))
create opened commits active statement reply e plain last = absurd (false≢true e)

-- what a change does
change_count : (machine : Machine) (number : ℕ) (active : OpenTransaction) (net : List TableNet)
    (writes : Option WriteSet) (count : ℕ) (meaning : Meaning)
    → is_change_of count meaning ≡ true
    → answer_change machine number active meaning net writes ≡ answer_net machine number active count net writes
change_count machine number active net writes count (meant.Change changed part) e =
    ap (λ n. answer_net machine number active n net writes) (eqb-true changed count e)
change_count machine number active net writes count other e = absurd (false≢true e)

change_receipt : (commits : List Commit) (now : Bool) (receipt : Option Receipt)
    → is_receipt_for commits now receipt ≡ true
    → option_map timeless_receipt receipt ≡ (if now then Some (next_receipt commits) else None)
change_receipt commits true None e = absurd (false≢true e)
change_receipt commits false None e = refl
change_receipt commits true (Some receipt) e = ap Some (receipts commits receipt e)
change_receipt commits false (Some receipt) e = absurd (false≢true e)

-- the answer by the refusal for its size
pub by_size : (machine : Machine) (number : ℕ) (active : OpenTransaction) (count : ℕ) (net : List TableNet)
    (writes : Option WriteSet) (refused : Option Refusal)
    → size_refusal net ≡ refused
    → answer_net machine number active count net writes ≡ elim refused as (λ x. Reply) [
      | Some refusal ↦ told.Refused refusal
      | None ↦ answer_rows machine number (active.fresh && not (is_empty net)) count
          (least_blocked machine number active.start writes)
    ]
by_size machine number active count net writes refused is = ap (λ found. elim found as (λ x. Reply) [
  | Some refusal ↦ told.Refused refusal
  | None ↦ answer_rows machine number (active.fresh && not (is_empty net)) count
      (least_blocked machine number active.start writes)
]) is

-- the answer where the net is small enough, by the least row that is blocked
net_rows : (machine : Machine) (number : ℕ) (active : OpenTransaction) (count : ℕ) (net : List TableNet)
    (writes : Option WriteSet) (least : Option (ℕ × ℕ))
    → is_none (size_refusal net) ≡ true → least_blocked machine number active.start writes ≡ least
    → answer_net machine number active count net writes ≡ answer_rows machine number
    (active.fresh && not (is_empty net)) count least
net_rows machine number active count net writes least small is =
    by_size machine number active count net writes None (none_from (size_refusal net) small)
    ∙ ap (answer_rows machine number (active.fresh && not (is_empty net)) count) is
  where
    none_from : (found : Option Refusal) → is_none found ≡ true → found ≡ None
    none_from None e = refl
    none_from (Some refusal) e = absurd (false≢true e)

none_least : (machine : Machine) (number start : ℕ) (writes : Option WriteSet)
    → none_blocked machine number start writes ≡ true
    → least_blocked machine number start writes ≡ None
none_least machine number start None none = refl
none_least machine number start (Some set) none =
    ap (option_map (λ row. (set.table, row))) (least_none (is_blocked machine number start set.table) set.ids none)

net_changed : (machine : Machine) (number : ℕ) (active : OpenTransaction) (count : ℕ) (net : List TableNet)
    (writes : Option WriteSet) (receipt : Option Receipt)
    → is_none (size_refusal net) ≡ true → none_blocked machine number active.start writes ≡ true
    → is_receipt_for machine.commits (active.fresh && not (is_empty net)) receipt ≡ true
    → timeless (told.Changed count receipt) ≡ answer_net machine number active count net writes
net_changed machine number active count net writes receipt small none is =
    ap (told.Changed count) (change_receipt machine.commits (active.fresh && not (is_empty net)) receipt is)
    ∙ sym (net_rows machine number active count net writes None small
    (none_least machine number active.start writes none))

net_conflict : (machine : Machine) (number : ℕ) (active : OpenTransaction) (count : ℕ) (net : List TableNet)
    (writes : Option WriteSet) (table row : ℕ) (by : Holder)
    → is_conflict_alone machine number active.start writes net table row by ≡ true
    → none_in_flight machine number ≡ true
    → HasOneHolder machine number
    → told.Refused (why.Conflict table row by) ≡ answer_net machine number active count net writes
net_conflict machine number active count net None table row by e alone one =
    absurd (false≢true (and_parts (is_least_held machine number active.start None table row)
    (held_alone machine number active.start table row by) (and_parts (is_none (size_refusal net)) _ e).1).0)
net_conflict machine number active count net (Some set) table row by e alone one =
    let h = and_parts (is_none (size_refusal net)) (is_least_held machine number active.start (Some set) table row &&
    held_alone machine number active.start table row by) e in
    let k = and_parts (is_least_held machine number active.start (Some set) table row)
    (held_alone machine number active.start table row by) h.1 in
    let l = and_parts (writes_row (Some set) table row && is_blocked machine number active.start set.table row) _ k.0 in
    let m = and_parts (writes_row (Some set) table row) (is_blocked machine number active.start set.table row) l.0 in
    let written = and_parts (set.table == table) (has_id set.ids row) m.0 in
    let least = ap (option_map (λ row. (set.table, row)))
    (least_is (is_blocked machine number active.start set.table) row set.ids written.1 m.1 l.1) in
    let same : set.table ≡ table = eqb-true set.table table written.0 in
    ap (λ who. told.Refused (why.Conflict table row who))
    (holder_is machine number active.start table row by k.1 alone one)
    ∙ (sym (ap (λ t. told.Refused (why.Conflict t row (holder_of machine number t row))) same)
    ∙ sym (net_rows machine number active count net (Some set) (Some (set.table, row)) h.0 least))

-- only a change writes rows
conflict : (opened : List Table) (machine : Machine) (number : ℕ) (active : OpenTransaction) (meaning : Meaning)
    (net : List TableNet) (table row : ℕ) (by : Holder)
    → writes_row (write_set opened machine.commits active meaning) table row ≡ true
    → is_conflict_alone machine number active.start (write_set opened machine.commits active meaning) net table row by ≡
    true
    → none_in_flight machine number ≡ true → HasOneHolder machine number
    → told.Refused (why.Conflict table row by) ≡ answer_change machine number active meaning net
    (write_set opened machine.commits active meaning)
conflict opened machine number active (meant.Change count part) net table row by written e alone one =
    net_conflict machine number active count net (write_set opened machine.commits active (meant.Change count part))
    table row by e alone one
conflict opened machine number active other net table row by written e alone one = absurd (false≢true written)

that_refusal : (found : Option Refusal) (refusal : Refusal) → is_that_refusal found refusal ≡ true
    → found ≡ Some refusal
that_refusal None refusal e = absurd (false≢true e)
that_refusal (Some own) refusal e = ap Some (same_refusal own refusal e)

-- a change that is refused for its size
sized_change : (machine : Machine) (number : ℕ) (active : OpenTransaction) (meaning : Meaning) (net : List TableNet)
    (writes : Option WriteSet) (refusal : Refusal)
    → is_any_change meaning ≡ true → is_that_refusal (size_refusal net) refusal ≡ true
    → told.Refused refusal ≡ answer_change machine number active meaning net writes
sized_change machine number active (meant.Change count part) net writes refusal any e =
    sym (by_size machine number active count net writes (Some refusal) (that_refusal (size_refusal net) refusal e))
sized_change machine number active other net writes refusal any e = absurd (false≢true any)

meant_change : (machine : Machine) (number : ℕ) (active : OpenTransaction) (meaning : Meaning) (net : List TableNet)
    (writes : Option WriteSet) (refusal : Refusal)
    → is_meant_refusal meaning refusal ≡ true
    → told.Refused refusal ≡ answer_change machine number active meaning net writes
meant_change machine number active meaning net writes refusal e =
    sym (ap (λ m. answer_change machine number active m net writes) (meant_refusal meaning refusal e))

other_refusal : (machine : Machine) (number : ℕ) (active : OpenTransaction) (meaning : Meaning) (net : List TableNet)
    (writes : Option WriteSet) (refusal : Refusal)
    → (is_meant_refusal meaning refusal || (is_fault refusal ||
    (is_any_change meaning && is_that_refusal (size_refusal net) refusal))) ≡ true
    → Plain (told.Refused refusal) → told.Refused refusal ≡ answer_change machine number active meaning net writes
other_refusal machine number active meaning net writes refusal e plain =
    elim (or_cases (is_meant_refusal meaning refusal) (is_fault refusal ||
    (is_any_change meaning && is_that_refusal (size_refusal net) refusal)) e) [
      | inl meant ↦ meant_change machine number active meaning net writes refusal meant
      | inr more ↦ elim (or_cases (is_fault refusal) (is_any_change meaning && is_that_refusal (size_refusal net)
          refusal) more) [
            | inl fault ↦ absurd (no_fault refusal plain fault)
            | inr sized ↦
                let h = and_parts (is_any_change meaning) (is_that_refusal (size_refusal net) refusal) sized in
                sized_change machine number active meaning net writes refusal h.0 h.1
          ]
    ]

-- why a change is refused
abbrev Conflicts : Machine → ℕ → ℕ → Option WriteSet → List TableNet → Reply → Type 0
Conflicts machine number start writes net reply =
    (table row : ℕ) (by : Holder) → reply ≡ told.Refused (why.Conflict table row by)
    → is_conflict_alone machine number start writes net table row by ≡ true

change_refusal : (opened : List Table) (number : ℕ) (machine : Machine) (active : OpenTransaction) (meaning : Meaning)
    (net : List TableNet)
    (now : Bool) (refusal : Refusal)
    → is_change_refusal machine.commits meaning net (write_set opened machine.commits active meaning) now refusal ≡ true
    → Plain (told.Refused refusal)
    → Conflicts machine number active.start (write_set opened machine.commits active meaning) net (told.Refused refusal)
    → none_in_flight machine number ≡ true → HasOneHolder machine number
    → told.Refused refusal ≡ answer_change machine number active meaning net
    (write_set opened machine.commits active meaning)
change_refusal opened number machine active meaning net now (why.Conflict table row by) e plain conflicts alone one =
    conflict opened machine number active meaning net table row by e (conflicts table row by refl) alone one
change_refusal opened number machine active meaning net now (why.Stopped first) e plain conflicts alone one =
    absurd (false≢true plain)
change_refusal opened number machine active meaning net now refusal e plain conflicts alone one =
    other_refusal machine number active meaning net (write_set opened machine.commits active meaning) refusal e plain

-- where a reply says that a change is made, no row that it writes_row is is_blocked
abbrev Unblocked : Machine → ℕ → ℕ → Option WriteSet → Reply → Type 0
Unblocked machine number start touched (told.Changed count receipt) = none_blocked machine number start touched ≡ true
Unblocked machine number start touched other = Unit {0}

change_reply : (opened : List Table) (number : ℕ) (machine : Machine) (active : OpenTransaction) (meaning : Meaning)
    (net : List TableNet) (reply : Reply)
    → is_change_reply machine.commits meaning net (write_set opened machine.commits active meaning)
    (active.fresh && not (is_empty net)) reply ≡ true
    → Unblocked machine number active.start (write_set opened machine.commits active meaning) reply → Plain reply
    → Conflicts machine number active.start (write_set opened machine.commits active meaning) net reply
    → none_in_flight machine number ≡ true → HasOneHolder machine number
    → timeless reply ≡ answer_change machine number active meaning net (write_set opened machine.commits active meaning)
change_reply opened number machine active meaning net (told.Changed count receipt) e free plain conflicts alone one =
    let h = and_parts _ _ e in
    let a = and_parts _ _ h.0 in
    let touched = write_set opened machine.commits active meaning in
    net_changed machine number active count net touched receipt a.1 free h.1
    ∙ sym (change_count machine number active net touched count meaning a.0)
change_reply opened number machine active meaning net (told.Refused refusal) e free plain conflicts alone one =
    change_refusal opened number machine active meaning net (active.fresh && not (is_empty net)) refusal e plain
    conflicts alone one
change_reply opened number machine active meaning net reply e free plain conflicts alone one = absurd (false≢true e)

-- a reply that depends on whether the transaction was begun by this call
by_fresh : (fresh : Bool) (reply now later : Reply) (may may_not : Bool) → (if fresh then may else may_not) ≡ true
    → (fresh ≡ true → may ≡ true → timeless reply ≡ now) → (may_not ≡ true → timeless reply ≡ later)
    → timeless reply ≡ (if fresh then now else later)
by_fresh true reply now later may may_not e first second = first refl e
by_fresh false reply now later may may_not e first second = second e

sees_last : (fresh : Bool) (start last : ℕ) → (not fresh || start == last) ≡ true → fresh ≡ true → start ≡ last
sees_last true start last e is = eqb-true start last e
sees_last false start last e is = absurd (false≢true is)

inside : (reply : Reply) → is_refused is_in_transaction reply ≡ true → timeless reply ≡ told.Refused why.InTransaction
inside reply e = refused_as is_in_transaction why.InTransaction in_transaction reply e

in_open : (opened : List Table) (number : ℕ) (machine : Machine) (active : OpenTransaction) (statement : Statement)
    (kind : Kind) (reply : Reply)
    → open_answers opened machine.commits active statement kind reply ≡ true
    → Unblocked machine number active.start (write_set_in_flight opened machine.commits (state.Open active)
    (Some (Good statement))) reply → Plain reply
    → may_reply_alone opened machine number (state.Open active) (Some (Good statement)) reply ≡ true
    → sees_all machine.commits (state.Open active) ≡ true → none_in_flight machine number ≡ true
    → HasOneHolder machine number
    → timeless reply ≡ answer_open opened machine number active statement kind
in_open opened number machine active statement form.Begin reply e free plain may sees alone one =
    by_fresh active.fresh reply (told.Begun active.start) (told.Refused why.InTransaction) _ _ e
    (λ fresh is. begun active.start reply is) (inside reply)
in_open opened number machine active statement form.Commit reply e free plain may sees alone one =
    commit machine.commits active.net reply e plain
in_open opened number machine active statement form.Rollback reply e free plain may sees alone one = ended reply e
in_open opened number machine active statement form.Checkpoint reply e free plain may sees alone one = inside reply e
in_open opened number machine active statement form.Create reply e free plain may sees alone one =
    by_fresh active.fresh reply (answer_create machine.commits
    (meaning (after opened machine.commits (length machine.commits)) statement)) (told.Refused why.InTransaction)
    (create_answers opened machine.commits active statement reply) (is_refused is_in_transaction reply) e
    (λ fresh is. create opened machine.commits active statement reply is plain
    (sees_last active.fresh active.start (length machine.commits) sees fresh))
    (inside reply)
in_open opened number machine active statement form.Select reply e free plain may sees alone one =
    select (meaning_in opened machine.commits active (Good statement)) reply e plain
in_open opened number machine active statement form.Change reply e free plain may sees alone one =
    let meant_so = meaning_in opened machine.commits active (Good statement) in
    change_reply opened number machine active meant_so (net_after opened machine.commits active meant_so) reply e free
    plain
    (λ table row by is. subst (λ r. may_reply_alone opened machine number (state.Open active) (Some (Good statement)) r
    ≡ true) is may) alone one

in_state : (opened : List Table) (iteration : ℕ) (machine : Machine) (number : ℕ) (transaction : Transaction)
    (statement : Statement) (reply : Reply)
    → statement_answers opened machine.commits transaction statement reply ≡ true
    → Unblocked machine number (start_of transaction) (write_set_in_flight opened machine.commits transaction
    (Some (Good statement))) reply → Plain reply
    → (is_checkpoint (kind_of statement) ≡ true → follows iteration reply ≡ true)
    → may_reply_alone opened machine number transaction (Some (Good statement)) reply ≡ true
    → sees_all machine.commits transaction ≡ true → none_in_flight machine number ≡ true → HasOneHolder machine number
    → timeless reply ≡ answer_statement opened iteration machine number transaction statement
in_state opened iteration machine number state.Outside statement reply e free plain next may sees alone one =
    outside opened iteration number machine (Some (Good statement)) (kind_of statement) reply refl e may plain next
in_state opened iteration machine number state.Aborted statement reply e free plain next may sees alone one =
    aborted (kind_of statement) reply e
in_state opened iteration machine number (state.Open active) statement reply e free plain next may sees alone one =
    in_open opened number machine active statement (kind_of statement) reply e free plain may sees alone one

to_call : (opened : List Table) (iteration : ℕ) (machine : Machine) (number : ℕ) (transaction : Transaction)
    (asked : Asked) (reply : Reply)
    → may_answer opened machine.commits transaction asked reply ≡ true
    → Unblocked machine number (start_of transaction) (write_set_in_flight opened machine.commits transaction
    (Some asked)) reply → is_plain asked reply ≡ true
    → (asks_for is_checkpoint (Some asked) ≡ true → follows iteration reply ≡ true)
    → may_reply_alone opened machine number transaction (Some asked) reply ≡ true
    → sees_all machine.commits transaction ≡ true → none_in_flight machine number ≡ true → HasOneHolder machine number
    → timeless reply ≡ answer opened iteration machine number transaction asked
to_call opened iteration machine number transaction Unread reply e free plain next may sees alone one =
    refused_as is_no_memory why.OutOfMemory no_memory reply e
to_call opened iteration machine number transaction (Bad at) reply e free plain next may sees alone one =
    refused_as (is_text_refusal at) (why.Syntax at) (text_refusal at) reply e
to_call opened iteration machine number transaction (Good statement) reply e free plain next may sees alone one =
    in_state opened iteration machine number transaction statement reply e free plain next may sees alone one

unblocked : (opened : List Table) (number : ℕ) (before : List Entry) (machine : Machine) (session : Session)
    (reply : Reply)
    → is_founded opened number before machine session reply ≡ true
    → Unblocked machine number (start_of session.transaction)
    (write_set_in_flight opened machine.commits session.transaction session.asked) reply
unblocked opened number before machine session (told.Changed count receipt) founded = founded
unblocked opened number before machine session other founded = tt

-- a reply to a call in flight of this session, in a state of one thread
pub record Tells (opened : List Table) (iteration : ℕ) (before : List Entry) (machine : Machine) (number : ℕ)
    (session : Session) (asked : Asked) (reply : Reply) : Type 0 where
  pub may : may_answer opened machine.commits session.transaction asked reply ≡ true
  pub founded : is_founded opened number before machine session reply ≡ true
  pub alone : may_reply_alone opened machine number session.transaction (Some asked) reply ≡ true
  pub none : none_in_flight machine number ≡ true
  pub next : asks_for is_checkpoint (Some asked) ≡ true → follows iteration reply ≡ true

pub told_is_answer : (opened : List Table) (iteration : ℕ) (before : List Entry) (machine : Machine) (number : ℕ)
    (session : Session) (asked : Asked) (reply : Reply)
    → Tells opened iteration before machine number session asked reply → session.asked ≡ Some asked
    → is_plain asked reply ≡ true
    → sees_all machine.commits session.transaction ≡ true → HasOneHolder machine number
    → timeless reply ≡ answer opened iteration machine number session.transaction asked
told_is_answer opened iteration before machine number session asked reply tells call plain sees one =
    let free = unblocked opened number before machine session reply tells.founded in
    to_call opened iteration machine number session.transaction asked reply tells.may
    (subst (λ call. Unblocked machine number (start_of session.transaction)
    (write_set_in_flight opened machine.commits session.transaction call) reply) call free)
    plain tells.next tells.alone sees tells.none one
