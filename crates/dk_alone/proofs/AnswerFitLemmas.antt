-- In a history of one thread the answer to a call may be replied to it, and is neither a stop nor a fault.
use Rattle.std.proofs.Common.{◌≡◌, ⊎_elim, ℕ, ◌+◌, ◌-◌, ◌<◌, ◌≤◌, Bool, true, false, List, [], ◌∷◌, length, Option}
use Rattle.std.proofs.Common.{Some, None, ap, ◌∙◌, sym, refl, subst, arith}
use Rattle.std.specs.Prelude.{◌&&◌, ◌||◌, not, is_none, option_map, ◌==◌, if◌then◌else◌}
use Rattle.std.specs.List.{list_all}
use Rattle.std.proofs.lemmas.Bool.{false≢true, and_from, and_right, or_left, or_right, cases_lt, le-leb, eq-eqb}
use Rattle.std.proofs.lemmas.Bool.{eqb-true, eqb-false, not_from_false}
use Rattle.dk_types.specs.declared.net.TableNet.{TableNet}
use Rattle.dk_types.specs.declared.reply.Exhausted.{Exhausted}
use Rattle.dk_types.specs.declared.reply.Holder.{Holder}
use Rattle.dk_types.specs.declared.reply.Reply.{Reply}
use Rattle.dk_types.specs.declared.reply.Reply.TheVariants as told
use Rattle.dk_types.specs.declared.reply.Refusal.{Refusal}
use Rattle.dk_types.specs.declared.reply.Refusal.TheVariants as why
use Rattle.dk_syntax.specs.declared.statement.Statement.{Statement}
use Rattle.dk_si.specs.declared.database.Table.{Table}
use Rattle.dk_si.specs.declared.history.Asked.{Asked}
use Rattle.dk_si.specs.declared.history.Asked.TheVariants.{Unread, Bad, Good}
use Rattle.dk_si.specs.declared.history.Entry.{Entry}
use Rattle.dk_si.specs.declared.kind.Kind.{Kind}
use Rattle.dk_si.specs.declared.kind.Kind.TheVariants as form
use Rattle.dk_si.specs.declared.limits.TheConstants.{MAX_ITERATION}
use Rattle.dk_si.specs.declared.machine.LastTransaction.{LastTransaction}
use Rattle.dk_si.specs.declared.machine.Machine.{Machine}
use Rattle.dk_si.specs.declared.machine.OpenTransaction.{OpenTransaction}
use Rattle.dk_si.specs.declared.machine.Session.{Session}
use Rattle.dk_si.specs.declared.machine.Transaction.{Transaction}
use Rattle.dk_si.specs.declared.machine.Transaction.TheVariants as state
use Rattle.dk_si.specs.declared.machine.WriteSet.{WriteSet}
use Rattle.dk_si.specs.declared.meaning.Meaning.{Meaning}
use Rattle.dk_si.specs.declared.meaning.Meaning.TheVariants as meant
use Rattle.dk_si.specs.Database.{after, view}
use Rattle.dk_si.specs.HeldRows.{is_blocked, writes_row, holds, holds_against}
use Rattle.dk_si.specs.IsStep.{none_blocked, is_founded}
use Rattle.dk_si.specs.Machine.{asks_for, begins_one, is_outside, kind_of, meaning_in, net_after, session_at, write_set}
use Rattle.dk_si.specs.MayAnswer.{may_answer, statement_answers, outside_answers, aborted_answers, open_answers}
use Rattle.dk_si.specs.MayAnswer.{commit_answers, create_answers, select_answers, is_meant_refusal, is_refused_from}
use Rattle.dk_si.specs.MayAnswer.{is_creation, is_change_of, is_any_change, is_that_refusal, is_receipt_for}
use Rattle.dk_si.specs.MayAnswer.{is_change_reply}
use Rattle.dk_si.specs.Meaning.{meaning, is_same_refusal}
use Rattle.dk_si.specs.Nets.{has_id, is_empty}
use Rattle.dk_si.specs.OneThread.{is_least_held, held_alone, is_spent_alone, are_spent_numbers, may_reply_alone}
use Rattle.dk_si.specs.ReplyTests.{is_spent_refusal, is_begun, is_in_transaction, is_refused, is_stop, is_fault}
use Rattle.dk_si.specs.ReplyTests.{has_no_iteration}
use Rattle.dk_si.specs.Size.{size_refusal}
use Rattle.dk_si.specs.Spent.{committed_rows, is_spent}
use Rattle.dk_si.specs.StatesSince.{was_since_call}
use Rattle.dk_si.specs.Weight.{cap}
use Rattle.dk_si.specs.Answer.{next_receipt, holder_of, least_where, least_blocked, answer_spent, answer_outside}
use Rattle.dk_si.specs.Answer.{answer_aborted, answer_commit, answer_create, answer_select, answer_rows, answer_net}
use Rattle.dk_si.specs.Answer.{answer_change, answer_open, answer_statement, answer}
use Rattle.dk_alone.specs.AnswerLaws.{is_plain}
use Rattle.dk_alone.proofs.AnswerLemmas.{follows, by_size}
use Rattle.dk_si.proofs.HolderLemmas.{NoneBelow, sees_all}
use Rattle.dk_alone.proofs.LeastRowLemmas.{IsLeast, least_found, holder_found}
use Rattle.dk_alone.proofs.SameRowLemmas.{rows_are_same}
use Rattle.dk_laws.proofs.KindLemmas.{Suits, meaning_suits, sizes_may_be_replied}
use Rattle.dk_si.proofs.TransitionLemmas.{session_of}

-- the reply passes that test, and whatever else a reply of one thread must
pub record Fits (may : Reply → Bool) (opened : List Table) (last : ℕ) (before : List Entry) (machine : Machine)
    (number : ℕ)
    (transaction : Transaction) (asked : Asked) (touched : Option WriteSet) (past : Option LastTransaction)
    (reply : Reply) : Type 0 where
  pub passes : may reply ≡ true
  pub founded : is_founded opened number before machine (session_of transaction (Some asked) touched past) reply ≡ true
  pub alone : may_reply_alone opened machine number transaction (Some asked) reply ≡ true
  pub plain : is_plain asked reply ≡ true
  pub calm : is_stop reply ≡ false
  pub next : follows last reply ≡ true

-- the session is there, and what is so now was so since its call
pub record Asks (opened : List Table) (before : List Entry) (machine : Machine) (number : ℕ)
    (session : Session) : Type 0 where
  pub there : session_at machine.sessions number ≡ Some session
  pub was : (test : Machine → Bool) → test machine ≡ true → was_since_call test opened number before ≡ true

pub below_most : (n most : ℕ) → n ≤ most → (n ≡ most → ⊥) → n < most
below_most n most le other = ⊎_elim (λ less. less) (λ more. absurd (other (omega (arith, le, more)))) (cases_lt n most)

-- replies that ask nothing of other sessions and of what is carried
abbrev is_quiet_refusal : Refusal → Bool
is_quiet_refusal why.NoTransaction = true
is_quiet_refusal why.InTransaction = true
is_quiet_refusal why.Aborted = true
is_quiet_refusal (why.NoTable at) = true
is_quiet_refusal (why.NoColumn at) = true
is_quiet_refusal (why.TypeMismatch at) = true
is_quiet_refusal (why.SameColumn at) = true
is_quiet_refusal (why.NotGrouped at) = true
is_quiet_refusal (why.TableExists at) = true
is_quiet_refusal (why.OutOfRange at) = true
is_quiet_refusal why.TooManyTables = true
is_quiet_refusal why.Unsupported = true
is_quiet_refusal (why.BadField row field) = true
is_quiet_refusal (why.TooLarge bytes rows) = true
is_quiet_refusal other = false

abbrev is_quiet : Reply → Bool
is_quiet (told.Created receipt) = true
is_quiet (told.Rows rows) = true
is_quiet (told.Begun start) = true
is_quiet (told.Committed receipt) = true
is_quiet told.Ended = true
is_quiet (told.Refused refusal) = is_quiet_refusal refusal
is_quiet other = false

module _ (opened : List Table) (last : ℕ) (before : List Entry) (machine : Machine) (number : ℕ)
    (touched : Option WriteSet) (past : Option LastTransaction) where
  fits_by : (may : Reply → Bool) (transaction : Transaction) (asked : Asked) (reply : Reply) → may reply ≡ true
      → is_founded opened number before machine (session_of transaction (Some asked) touched past) reply ≡ true
      → may_reply_alone opened machine number transaction (Some asked) reply ≡ true → is_plain asked reply ≡ true
      → is_stop reply ≡ false → follows last reply ≡ true
      → Fits may opened last before machine number transaction asked touched past reply
  fits_by may transaction asked reply passes founded alone plain calm next = record {
    passes = passes;
    founded = founded;
    alone = alone;
    plain = plain;
    calm = calm;
    next = next;
  }

  quiet_refused : (may : Reply → Bool) (transaction : Transaction) (statement : Statement) (refusal : Refusal)
      → is_quiet_refusal refusal ≡ true → may (told.Refused refusal) ≡ true
      → Fits may opened last before machine number transaction (Good statement) touched past (told.Refused refusal)
  quiet_refused may transaction statement why.NoTransaction quiet passes =
      fits_by may transaction (Good statement) (told.Refused why.NoTransaction) passes refl refl refl refl refl
  quiet_refused may transaction statement why.InTransaction quiet passes =
      fits_by may transaction (Good statement) (told.Refused why.InTransaction) passes refl refl refl refl refl
  quiet_refused may transaction statement why.Aborted quiet passes =
      fits_by may transaction (Good statement) (told.Refused why.Aborted) passes refl refl refl refl refl
  quiet_refused may transaction statement (why.NoTable at) quiet passes =
      fits_by may transaction (Good statement) (told.Refused (why.NoTable at)) passes refl refl refl refl refl
  quiet_refused may transaction statement (why.NoColumn at) quiet passes =
      fits_by may transaction (Good statement) (told.Refused (why.NoColumn at)) passes refl refl refl refl refl
  quiet_refused may transaction statement (why.TypeMismatch at) quiet passes =
      fits_by may transaction (Good statement) (told.Refused (why.TypeMismatch at)) passes refl refl refl refl refl
  quiet_refused may transaction statement (why.SameColumn at) quiet passes =
      fits_by may transaction (Good statement) (told.Refused (why.SameColumn at)) passes refl refl refl refl refl
  quiet_refused may transaction statement (why.NotGrouped at) quiet passes =
      fits_by may transaction (Good statement) (told.Refused (why.NotGrouped at)) passes refl refl refl refl refl
  quiet_refused may transaction statement (why.TableExists at) quiet passes =
      fits_by may transaction (Good statement) (told.Refused (why.TableExists at)) passes refl refl refl refl refl
  quiet_refused may transaction statement (why.OutOfRange at) quiet passes =
      fits_by may transaction (Good statement) (told.Refused (why.OutOfRange at)) passes refl refl refl refl refl
  quiet_refused may transaction statement why.TooManyTables quiet passes =
      fits_by may transaction (Good statement) (told.Refused why.TooManyTables) passes refl refl refl refl refl
  quiet_refused may transaction statement why.Unsupported quiet passes =
      fits_by may transaction (Good statement) (told.Refused why.Unsupported) passes refl refl refl refl refl
  quiet_refused may transaction statement (why.BadField row field) quiet passes =
      fits_by may transaction (Good statement) (told.Refused (why.BadField row field)) passes refl refl refl refl refl
  quiet_refused may transaction statement (why.TooLarge bytes rows) quiet passes =
      fits_by may transaction (Good statement) (told.Refused (why.TooLarge bytes rows)) passes refl refl refl refl refl
  quiet_refused may transaction statement other quiet passes = absurd (false≢true quiet)

  quiet : (may : Reply → Bool) (transaction : Transaction) (statement : Statement) (reply : Reply)
      → is_quiet reply ≡ true → may reply ≡ true
      → Fits may opened last before machine number transaction (Good statement) touched past reply
  quiet may transaction statement (told.Created receipt) h passes =
      fits_by may transaction (Good statement) (told.Created receipt) passes refl refl refl refl refl
  quiet may transaction statement (told.Rows rows) h passes =
      fits_by may transaction (Good statement) (told.Rows rows) passes refl refl refl refl refl
  quiet may transaction statement (told.Begun start) h passes =
      fits_by may transaction (Good statement) (told.Begun start) passes refl refl refl refl refl
  quiet may transaction statement (told.Committed receipt) h passes =
      fits_by may transaction (Good statement) (told.Committed receipt) passes refl refl refl refl refl
  quiet may transaction statement told.Ended h passes =
      fits_by may transaction (Good statement) told.Ended passes refl refl refl refl refl
  quiet may transaction statement (told.Refused refusal) h passes =
      quiet_refused may transaction statement refusal h passes
  quiet may transaction statement other h passes = absurd (false≢true h)

  -- a refusal that is the same as itself
  same_is_quiet : (refusal : Refusal) → is_same_refusal refusal refusal ≡ true → is_quiet_refusal refusal ≡ true
  same_is_quiet (why.NoTable at) same = refl
  same_is_quiet (why.NoColumn at) same = refl
  same_is_quiet (why.TypeMismatch at) same = refl
  same_is_quiet (why.SameColumn at) same = refl
  same_is_quiet (why.NotGrouped at) same = refl
  same_is_quiet (why.TableExists at) same = refl
  same_is_quiet (why.OutOfRange at) same = refl
  same_is_quiet why.TooManyTables same = refl
  same_is_quiet why.Unsupported same = refl
  same_is_quiet (why.BadField row field) same = refl
  same_is_quiet (why.TooLarge bytes rows) same = refl
  same_is_quiet other same = absurd (false≢true same)

  -- outside a transaction
  checkpoint_if : (statement : Statement) (b : Bool) → (last == MAX_ITERATION) ≡ b → last ≤ MAX_ITERATION
      → asks_for begins_one (Some (Good statement)) ≡ false
      → Fits (outside_answers machine.commits form.Checkpoint) opened last before machine number state.Outside
      (Good statement) touched past
      (if b then told.Refused
      (why.Exhausted (record { clock = 0; rows = 0; transactions = 0; iteration = MAX_ITERATION })) else
      told.Checkpointed (last + 1))
  checkpoint_if statement true is within apart = record {
    passes = refl;
    founded = refl;
    alone = or_left _ _ (not_from_false (asks_for begins_one (Some (Good statement))) apart);
    plain = refl;
    calm = refl;
    next = is;
  }
  checkpoint_if statement false is within apart = record {
    passes = le-leb (last + 1) MAX_ITERATION
        (let less = below_most last MAX_ITERATION within (eqb-false last MAX_ITERATION is) in omega (arith, less));
    founded = refl;
    alone = refl;
    plain = refl;
    calm = refl;
    next = eq-eqb (last + 1) (last + 1) refl;
  }

  -- the numbers that are told where no transaction can begin
  abbrev pub spent_numbers : Exhausted
  spent_numbers = record {
    clock = 0;
    rows = cap (committed_rows opened machine.commits);
    transactions =
        machine.begun;
    iteration = 0;
  }

  spent_fits : (kind : Kind) (statement : Statement) → is_refused is_spent_refusal (answer_spent opened machine)
      ≡ outside_answers machine.commits kind (answer_spent opened machine)
      → is_spent_alone opened machine ≡ true → was_since_call (is_spent opened spent_numbers) opened number before
      ≡ true
      → Fits (outside_answers machine.commits kind) opened last before machine number state.Outside
      (Good statement) touched past (answer_spent opened machine)
  spent_fits kind statement may spent was = record {
    passes = sym may;
    founded = or_right (has_no_iteration (why.Exhausted spent_numbers))
        (was_since_call (is_spent opened spent_numbers) opened number before) was;
    alone = or_right (not (asks_for begins_one (Some (Good statement)))) (is_spent_alone opened machine
        && are_spent_numbers opened machine spent_numbers)
        (and_from (is_spent_alone opened machine) (are_spent_numbers opened machine spent_numbers) spent
        (and_from true (machine.begun == machine.begun && cap (committed_rows opened machine.commits) == cap
        (committed_rows opened machine.commits)) refl
        (and_from (machine.begun == machine.begun) (cap (committed_rows opened machine.commits) == cap
        (committed_rows opened machine.commits))
        (eq-eqb machine.begun machine.begun refl) (eq-eqb (cap (committed_rows opened machine.commits))
        (cap (committed_rows opened machine.commits)) refl))));
    plain = refl;
    calm = refl;
    next = or_left (not (has_no_iteration (why.Exhausted spent_numbers))) (last == MAX_ITERATION)
        (not_from_false (has_no_iteration (why.Exhausted spent_numbers))
        (and_right (0 == 0 && cap (committed_rows opened machine.commits) == 0)
        (machine.begun == 0 && 0 == MAX_ITERATION)
        (and_right (machine.begun == 0) (0 == MAX_ITERATION) refl)));
  }

  -- where a call asks to begin a transaction and none began, none can
  abbrev pub Spent : Bool → Type 0
  Spent asks = asks ≡ true → (is_spent_alone opened machine ≡ true) ×
      (was_since_call (is_spent opened spent_numbers) opened number before ≡ true)

  outside_fits : (kind : Kind) (statement : Statement) → asks_for begins_one (Some (Good statement)) ≡ begins_one kind
      → Spent (begins_one kind)
      → last ≤ MAX_ITERATION
      → Fits (outside_answers machine.commits kind) opened last before machine number state.Outside
      (Good statement) touched past (answer_outside opened last machine kind)
  outside_fits form.Commit statement asks spent within = quiet (outside_answers machine.commits form.Commit)
      state.Outside statement (told.Refused why.NoTransaction) refl refl
  outside_fits form.Rollback statement asks spent within = quiet (outside_answers machine.commits form.Rollback)
      state.Outside statement (told.Refused why.NoTransaction) refl refl
  outside_fits form.Checkpoint statement asks spent within = checkpoint_if statement
      (last == MAX_ITERATION) refl within asks
  outside_fits form.Begin statement asks spent within = let h = spent refl in spent_fits form.Begin statement refl h.0
      h.1
  outside_fits form.Create statement asks spent within = let h = spent refl in spent_fits form.Create statement refl
      h.0 h.1
  outside_fits form.Select statement asks spent within = let h = spent refl in spent_fits form.Select statement refl
      h.0 h.1
  outside_fits form.Change statement asks spent within = let h = spent refl in spent_fits form.Change statement refl
      h.0 h.1

  aborted_fits : (kind : Kind) (statement : Statement)
      → Fits (aborted_answers kind) opened last before machine number state.Aborted (Good statement) touched past
      (answer_aborted kind)
  aborted_fits form.Rollback statement = quiet (aborted_answers form.Rollback) state.Aborted statement told.Ended refl
      refl
  aborted_fits other statement = quiet (aborted_answers other) state.Aborted statement (told.Refused why.Aborted) refl
      refl

  -- in an open transaction
  commit_fits : (transaction : Transaction) (statement : Statement) (net : List TableNet)
      → Fits (commit_answers machine.commits net) opened last before machine number transaction
      (Good statement) touched past (answer_commit machine.commits net)
  commit_fits transaction statement [] = quiet (commit_answers machine.commits []) transaction statement told.Ended
      refl refl
  commit_fits transaction statement (part ∷ net) =
      quiet (commit_answers machine.commits (part ∷ net)) transaction statement
      (told.Committed (next_receipt machine.commits)) refl
      (or_left (length machine.commits + 1 == length machine.commits + 1) false (eq-eqb (length machine.commits + 1)
      (length machine.commits + 1) refl))

  begin_fits : (transaction : Transaction) (statement : Statement) (fresh : Bool) (start : ℕ)
      → Fits (λ reply. if fresh then is_begun start reply else is_refused is_in_transaction reply) opened last before
      machine number transaction (Good statement) touched past
      (if fresh then told.Begun start else told.Refused why.InTransaction)
  begin_fits transaction statement true start = quiet (is_begun start) transaction statement (told.Begun start) refl
      (eq-eqb start start refl)
  begin_fits transaction statement false start = quiet (is_refused is_in_transaction) transaction statement
      (told.Refused why.InTransaction) refl refl

  select_fits : (transaction : Transaction) (statement : Statement) (meaning : Meaning)
      → Suits form.Select meaning
      → Fits (select_answers meaning) opened last before machine number transaction (Good statement) touched past
      (answer_select meaning)
  select_fits transaction statement (meant.Rows rows) fit = quiet (select_answers (meant.Rows rows)) transaction
      statement (told.Rows rows) refl (rows_are_same rows)
  select_fits transaction statement (meant.Refused refusal) fit =
      quiet (select_answers (meant.Refused refusal)) transaction statement (told.Refused refusal)
      (same_is_quiet refusal fit.1) (or_left (is_same_refusal refusal refusal) (is_fault refusal) fit.1)
  select_fits transaction statement (meant.Change count part) fit = absurd (false≢true fit.0)
  select_fits transaction statement (meant.Create name schema) fit = absurd (false≢true fit.0)
  select_fits transaction statement meant.Nothing fit = absurd (false≢true fit.0)

  -- a creation looks at the last state, which is that of its transaction's start
  refused_there : (active : OpenTransaction) (statement : Statement) (refusal : Refusal)
      → active.start ≡ length machine.commits
      → is_meant_refusal (meaning (after opened machine.commits (length machine.commits)) statement) refusal ≡ true
      → create_answers opened machine.commits active statement (told.Refused refusal) ≡ true
  refused_there active statement refusal start e =
      let none : length machine.commits - active.start ≡ 0 = omega (arith, start) in
      or_left _ _
      (ap (λ n. is_refused_from opened machine.commits statement refusal active.start n) none
      ∙ (ap (λ n. is_meant_refusal (meaning (after opened machine.commits n) statement) refusal) start ∙ e))

  create_fits : (active : OpenTransaction) (statement : Statement) → active.start ≡ length machine.commits
      → (so : Meaning) → meaning (after opened machine.commits (length machine.commits)) statement ≡ so
      → Suits form.Create so
      → Fits (create_answers opened machine.commits active statement) opened last before machine number
      (state.Open active) (Good statement) touched past
      (answer_create machine.commits so)
  create_fits active statement start (meant.Create name schema) is fit =
      quiet (create_answers opened machine.commits active statement) (state.Open active) statement
      (told.Created (next_receipt machine.commits)) refl
      (and_from (is_creation (meaning (after opened machine.commits (length machine.commits)) statement))
      (length machine.commits + 1 == length machine.commits + 1)
      (ap is_creation is) (eq-eqb (length machine.commits + 1) (length machine.commits + 1) refl))
  create_fits active statement start (meant.Refused refusal) is fit =
      quiet (create_answers opened machine.commits active statement) (state.Open active) statement
      (told.Refused refusal) (same_is_quiet refusal fit.1)
      (refused_there active statement refusal start (ap (λ m. is_meant_refusal m refusal) is ∙ fit.1))
  create_fits active statement start (meant.Rows rows) is fit = absurd (false≢true fit.0)
  create_fits active statement start (meant.Change count part) is fit = absurd (false≢true fit.0)
  create_fits active statement start meant.Nothing is fit = absurd (false≢true fit.0)

  create_if : (active : OpenTransaction) (statement : Statement) (fresh : Bool)
      → (fresh ≡ true → active.start ≡ length machine.commits)
      → Suits form.Create (meaning (after opened machine.commits (length machine.commits)) statement)
      → Fits (λ reply. if fresh then create_answers opened machine.commits active statement reply else is_refused
      is_in_transaction reply)
      opened last before machine number (state.Open active) (Good statement) touched past
      (if fresh then answer_create machine.commits (meaning (after opened machine.commits (length machine.commits))
      statement) else told.Refused why.InTransaction)
  create_if active statement true start fit =
      create_fits active statement (start refl) (meaning (after opened machine.commits (length machine.commits))
      statement) refl fit
  create_if active statement false start fit = quiet (is_refused is_in_transaction) (state.Open active) statement
      (told.Refused why.InTransaction) refl refl

  -- a change
  -- what the search for a blocked row tells
  abbrev IsBlockedAt : ℕ → Option WriteSet → Option (ℕ × ℕ) → Type 0
  IsBlockedAt start writes None = none_blocked machine number start writes ≡ true
  IsBlockedAt start writes (Some at) =
      (writes_row writes at.0 at.1 ≡ true) × (is_blocked machine number start at.0 at.1 ≡ true)
      × (is_least_held machine number start writes at.0 at.1 ≡ true)

  blocked_in : (start : ℕ) (set : WriteSet) (found : Option ℕ)
      → IsLeast (is_blocked machine number start set.table) set.ids found
      → IsBlockedAt start (Some set) (option_map (λ row. (set.table, row)) found)
  blocked_in start set None least = least
  blocked_in start set (Some row) least =
      let same = eq-eqb set.table set.table refl in
      let written = and_from (set.table == set.table) (has_id set.ids row) same least.0 in (
        written,
        least.1,
        and_from (writes_row (Some set) set.table row && is_blocked machine number start set.table row)
            (list_all (NoneBelow (is_blocked machine number start set.table) row) set.ids)
            (and_from (writes_row (Some set) set.table row) (is_blocked machine number start set.table row) written
            least.1) least.2,
      )

  blocked_at : (start : ℕ) (writes : Option WriteSet)
      → IsBlockedAt start writes (least_blocked machine number start writes)
  blocked_at start None = refl
  blocked_at start (Some set) = blocked_in start set (least_where (is_blocked machine number start set.table) set.ids)
      (least_found (is_blocked machine number start set.table) set.ids)

  module _ (active : OpenTransaction) (statement : Statement) where
    abbrev means : Meaning
    means = meaning_in opened machine.commits active (Good statement)

    abbrev writes : Option WriteSet
    writes = write_set opened machine.commits active means

    abbrev net : List TableNet
    net = net_after opened machine.commits active means

    abbrev commits_now : Bool
    commits_now = active.fresh && not (is_empty net)

    abbrev changes_so : Reply → Bool
    changes_so reply = is_change_reply machine.commits means net writes commits_now reply

    abbrev FitsChange : Reply → Type 0
    FitsChange reply = Fits changes_so opened last before machine number (state.Open active)
        (Good statement) touched past reply

    -- a refusal that the change means, or that its size has
    refused_fits : (refusal : Refusal) → is_same_refusal refusal refusal ≡ true
        → (is_meant_refusal means refusal || (is_any_change means && is_that_refusal (size_refusal net) refusal))
        ≡ true
        → FitsChange (told.Refused refusal)
    refused_fits (why.NoTable at) same may =
        quiet changes_so (state.Open active) statement (told.Refused (why.NoTable at)) refl may
    refused_fits (why.NoColumn at) same may =
        quiet changes_so (state.Open active) statement (told.Refused (why.NoColumn at)) refl may
    refused_fits (why.TypeMismatch at) same may =
        quiet changes_so (state.Open active) statement (told.Refused (why.TypeMismatch at)) refl may
    refused_fits (why.SameColumn at) same may =
        quiet changes_so (state.Open active) statement (told.Refused (why.SameColumn at)) refl may
    refused_fits (why.NotGrouped at) same may =
        quiet changes_so (state.Open active) statement (told.Refused (why.NotGrouped at)) refl may
    refused_fits (why.TableExists at) same may =
        quiet changes_so (state.Open active) statement (told.Refused (why.TableExists at)) refl may
    refused_fits (why.OutOfRange at) same may =
        quiet changes_so (state.Open active) statement (told.Refused (why.OutOfRange at)) refl may
    refused_fits why.TooManyTables same may =
        quiet changes_so (state.Open active) statement (told.Refused why.TooManyTables) refl may
    refused_fits why.Unsupported same may =
        quiet changes_so (state.Open active) statement (told.Refused why.Unsupported) refl may
    refused_fits (why.BadField row field) same may =
        quiet changes_so (state.Open active) statement (told.Refused (why.BadField row field)) refl may
    refused_fits (why.TooLarge bytes rows) same may =
        quiet changes_so (state.Open active) statement (told.Refused (why.TooLarge bytes rows)) refl may
    refused_fits other same may = absurd (false≢true same)

    receipt_is : (now : Bool) → is_receipt_for machine.commits now
        (if now then Some (next_receipt machine.commits) else None) ≡ true
    receipt_is true = eq-eqb (length machine.commits + 1) (length machine.commits + 1) refl
    receipt_is false = refl

    changed_fits : (count : ℕ) → is_change_of count means ≡ true → is_none (size_refusal net) ≡ true
        → none_blocked machine number active.start writes ≡ true
        → FitsChange (told.Changed count (if commits_now then Some (next_receipt machine.commits) else None))
    changed_fits count counts small free = record {
      passes = and_from (is_change_of count means && is_none (size_refusal net))
          (is_receipt_for machine.commits commits_now (if commits_now then Some (next_receipt machine.commits) else
          None))
          (and_from (is_change_of count means) (is_none (size_refusal net)) counts small) (receipt_is commits_now);
      founded = free;
      alone = refl;
      plain = refl;
      calm = refl;
      next = refl;
    }

    held_now : Asks opened before machine number (session_of (state.Open active) (Some (Good statement)) touched past)
        → (table row : ℕ) (by : Holder)
        → holds_against opened machine number active.start table row by ≡ true
        → holds opened number table row by machine ≡ true
    held_now asks table row by held =
        ap (λ found. elim found as (λ x. Bool) [
          | None ↦ false
          | Some session ↦ elim session.transaction as (λ x. Bool) [
            | state.Outside ↦ false
            | state.Aborted ↦ false
            | state.Open active ↦ holds_against opened machine number active.start table row by
          ]
        ]) asks.there ∙ held

    conflict_fits : Asks opened before machine number (session_of (state.Open active)
        (Some (Good statement)) touched past)
        → (table row : ℕ) → is_none (size_refusal net) ≡ true → writes_row writes table row ≡ true
        → is_blocked machine number active.start table row ≡ true
        → is_least_held machine number active.start writes table row ≡ true
        → FitsChange (told.Refused (why.Conflict table row (holder_of machine number table row)))
    conflict_fits asks table row small written blocked least =
        let by = holder_of machine number table row in
        let held = holder_found opened machine number active.start table row blocked in
        record {
          passes = written;
          founded = asks.was (holds opened number table row by) (held_now asks table row by held.against);
          alone = and_from (is_none (size_refusal net)) (is_least_held machine number active.start writes table row
              && held_alone machine number active.start table row by) small
              (and_from (is_least_held machine number active.start writes table row)
              (held_alone machine number active.start table row by) least held.alone);
          plain = refl;
          calm = refl;
          next = refl;
        }

    rows_fit : Asks opened before machine number (session_of (state.Open active) (Some (Good statement)) touched past)
        → (count : ℕ) → is_change_of count means ≡ true → is_none (size_refusal net) ≡ true
        → (at : Option (ℕ × ℕ)) → IsBlockedAt active.start writes at
        → FitsChange (answer_rows machine number commits_now count at)
    rows_fit asks count counts small None free = changed_fits count counts small free
    rows_fit asks count counts small (Some at) blocked = conflict_fits asks at.0 at.1 small blocked.0 blocked.1
        blocked.2

    net_fits : Asks opened before machine number (session_of (state.Open active) (Some (Good statement)) touched past)
        → (count : ℕ) → is_change_of count means ≡ true → is_any_change means ≡ true
        → (found : Option Refusal) → size_refusal net ≡ found
        → FitsChange (answer_net machine number active count net writes)
    net_fits asks count counts any (Some refusal) is =
        subst FitsChange (sym (by_size machine number active count net writes (Some refusal) is))
        (let same = sizes_may_be_replied net refusal is in
        refused_fits refusal same (or_right (is_meant_refusal means refusal) _
        (and_from (is_any_change means) (is_that_refusal (size_refusal net) refusal) any
        (ap (λ found. is_that_refusal found refusal) is ∙ same))))
    net_fits asks count counts any None is =
        subst FitsChange (sym (by_size machine number active count net writes None is))
        (rows_fit asks count counts (ap is_none is) (least_blocked machine number active.start writes)
        (blocked_at active.start writes))

    change_fits : Asks opened before machine number (session_of (state.Open active)
        (Some (Good statement)) touched past)
        → (so : Meaning) → means ≡ so → Suits form.Change so
        → FitsChange (answer_change machine number active so net writes)
    change_fits asks (meant.Change count part) is fit =
        net_fits asks count (ap (is_change_of count) is ∙ eq-eqb count count refl) (ap is_any_change is)
        (size_refusal net) refl
    change_fits asks (meant.Refused refusal) is fit =
        refused_fits refusal fit.1
        (or_left (is_meant_refusal means refusal) _ (ap (λ m. is_meant_refusal m refusal) is ∙ fit.1))
    change_fits asks (meant.Rows rows) is fit = absurd (false≢true fit.0)
    change_fits asks (meant.Create name schema) is fit = absurd (false≢true fit.0)
    change_fits asks meant.Nothing is fit = absurd (false≢true fit.0)

    open_fits : Asks opened before machine number (session_of (state.Open active) (Some (Good statement)) touched past)
        → (active.fresh ≡ true → active.start ≡ length machine.commits) → (kind : Kind) → ((tables : List Table)
        → Suits kind (meaning tables statement))
        → Fits (open_answers opened machine.commits active statement kind) opened last before machine number
        (state.Open active) (Good statement) touched past
        (answer_open opened machine number active statement kind)
    open_fits asks sees form.Begin fit = begin_fits (state.Open active) statement active.fresh active.start
    open_fits asks sees form.Commit fit = commit_fits (state.Open active) statement active.net
    open_fits asks sees form.Rollback fit = quiet (open_answers opened machine.commits active statement form.Rollback)
        (state.Open active) statement told.Ended refl refl
    open_fits asks sees form.Checkpoint fit =
        quiet (open_answers opened machine.commits active statement form.Checkpoint) (state.Open active) statement
        (told.Refused why.InTransaction) refl refl
    open_fits asks sees form.Create fit = create_if active statement active.fresh sees
        (fit (after opened machine.commits (length machine.commits)))
    open_fits asks sees form.Select fit = select_fits (state.Open active) statement means
        (fit (view opened machine.commits active.start active.net))
    open_fits asks sees form.Change fit = change_fits asks means refl
        (fit (view opened machine.commits active.start active.net))

  fresh_start : (fresh : Bool) (start most : ℕ) → (not fresh || start == most) ≡ true → fresh ≡ true → start ≡ most
  fresh_start true start most sees on = eqb-true start most sees
  fresh_start false start most sees on = absurd (false≢true on)

  state_fits : (transaction : Transaction) (statement : Statement) → Asks opened before machine number
      (session_of transaction (Some (Good statement)) touched past)
      → Spent (begins_one (kind_of statement) && is_outside transaction) → last ≤ MAX_ITERATION
      → sees_all machine.commits transaction ≡ true
      → Fits (statement_answers opened machine.commits transaction statement) opened last before machine number
      transaction (Good statement) touched past
      (answer_statement opened last machine number transaction statement)
  state_fits state.Outside statement asks spent within sees =
      outside_fits (kind_of statement) statement refl
      (λ begins. spent (and_from (begins_one (kind_of statement)) true begins refl)) within
  state_fits state.Aborted statement asks spent within sees = aborted_fits (kind_of statement) statement
  state_fits (state.Open active) statement asks spent within sees =
      open_fits active statement asks (fresh_start active.fresh active.start (length machine.commits) sees)
      (kind_of statement) (λ tables. meaning_suits tables statement)

  pub answer_fits : (transaction : Transaction) (asked : Asked) → Asks opened before machine number
      (session_of transaction (Some asked) touched past)
      → Spent (asks_for begins_one (Some asked) && is_outside transaction) → last ≤ MAX_ITERATION
      → sees_all machine.commits transaction ≡ true
      → Fits (may_answer opened machine.commits transaction asked) opened last before machine number transaction asked
      touched past
      (answer opened last machine number transaction asked)
  answer_fits transaction Unread asks spent within sees =
      fits_by (may_answer opened machine.commits transaction Unread) transaction Unread
      (answer opened last machine number transaction Unread) refl refl refl refl refl refl
  answer_fits transaction (Bad at) asks spent within sees =
      fits_by (may_answer opened machine.commits transaction (Bad at)) transaction (Bad at)
      (answer opened last machine number transaction (Bad at)) (eq-eqb at at refl) refl refl refl refl refl
  answer_fits transaction (Good statement) asks spent within sees =
      state_fits transaction statement asks spent within sees
