-- What a call comes to is the machine's answer, and the effect makes of the transaction what that answer makes of it.
use Rattle.std.proofs.Common.{◌≡◌, ℕ, Bool, true, false, List, [], ◌∷◌, length, Option, Some, None, ap, ◌∙◌, sym, refl, subst}
use Rattle.std.specs.Prelude.{◌&&◌, not, if◌then◌else◌}
use Rattle.std.proofs.lemmas.Bool.{false≢true}
use Rattle.dk_types.specs.declared.net.Commit.{Commit}
use Rattle.dk_types.specs.declared.net.Commit.TheVariants as commit
use Rattle.dk_types.specs.declared.net.TableNet.{TableNet}
use Rattle.dk_types.specs.declared.reply.Refusal.{Refusal}
use Rattle.dk_types.specs.declared.reply.Refusal.TheVariants as why
use Rattle.dk_types.specs.declared.reply.Reply.{Reply}
use Rattle.dk_types.specs.declared.reply.Reply.TheVariants as told
use Rattle.dk_syntax.specs.declared.statement.Statement.{Statement}
use Rattle.dk_si.specs.declared.database.Table.{Table}
use Rattle.dk_si.specs.declared.history.Asked.{Asked}
use Rattle.dk_si.specs.declared.history.Asked.TheVariants.{Unread, Bad, Good}
use Rattle.dk_si.specs.declared.kind.Kind.{Kind}
use Rattle.dk_si.specs.declared.kind.Kind.TheVariants as form
use Rattle.dk_si.specs.declared.machine.Machine.{Machine}
use Rattle.dk_si.specs.declared.machine.OpenTransaction.{OpenTransaction}
use Rattle.dk_si.specs.declared.machine.Transaction.{Transaction}
use Rattle.dk_si.specs.declared.machine.Transaction.TheVariants as state
use Rattle.dk_si.specs.declared.machine.Transition.{Transition}
use Rattle.dk_si.specs.declared.machine.WriteSet.{WriteSet}
use Rattle.dk_si.specs.declared.meaning.Meaning.{Meaning}
use Rattle.dk_si.specs.declared.meaning.Meaning.TheVariants as meant
use Rattle.dk_si.specs.Answer.{answer, answer_aborted, answer_open, answer_create, answer_select, answer_rows, answer_change, answer_commit, next_receipt, least_blocked, holder_of}
use Rattle.dk_si.specs.Database.{after}
use Rattle.dk_si.specs.Machine.{aborts, asks_for, change_transition, creation, end_with, has_own, is_own, kind_of, meaning_in, net_after, net_behind, refusal_transition, stay_open, transition, write_set}
use Rattle.dk_si.specs.Meaning.{meaning}
use Rattle.dk_si.specs.Nets.{is_empty}
use Rattle.dk_si.specs.Size.{size_refusal}
use Rattle.dk_plain_engine.specs.declared.effect.Effect.{Effect}
use Rattle.dk_plain_engine.specs.declared.effect.Effect.TheVariants as effect
use Rattle.dk_plain_engine.specs.declared.effect.Outcome.{Outcome}
use Rattle.dk_plain_engine.specs.Outcomes.{open_after, open_commit, transaction_after, commit_of, commits, lack_effect, own_effect, refusal_effect, stay, refuse}
use Rattle.dk_plain_engine.specs.Turns.{may_lack}
use Rattle.dk_plain_engine.specs.Outcomes.{create_outcome, select_outcome, rows_outcome, change_outcome}
use Rattle.dk_plain_engine.specs.Outcomes.{commit_outcome, open_outcome, aborted_outcome, outcome}
use Rattle.dk_plain_engine.specs.Still.{transaction_behind, commit_in}

-- the replies
abbrev reply_of : Outcome → Reply
reply_of outcome = outcome.reply

reply_if : (b : Bool) (x y : Outcome) → (if b then x else y).reply ≡ (if b then x.reply else y.reply)
reply_if true x y = refl
reply_if false x y = refl

aborted_reply : (kind : Kind) → (aborted_outcome kind).reply ≡ answer_aborted kind
aborted_reply form.Rollback = refl
aborted_reply other = refl

create_reply : (commits : List Commit) (m : Meaning) → (create_outcome commits m).reply ≡ answer_create commits m
create_reply commits (meant.Create name schema) = refl
create_reply commits (meant.Refused refusal) = refl
create_reply commits other = refl

select_reply : (active : OpenTransaction) (m : Meaning) → (select_outcome active m).reply ≡ answer_select m
select_reply active (meant.Rows rows) = refl
select_reply active (meant.Refused refusal) = refl
select_reply active other = refl

commit_reply : (commits : List Commit) (net : List TableNet) → (commit_outcome commits net).reply ≡ answer_commit commits net
commit_reply commits [] = refl
commit_reply commits (part ∷ net) = refl

changed_reply : (log : List Commit) (count : ℕ) (net : List TableNet) (other : Effect) (b : Bool)
    → reply_of (if b then record { reply = told.Changed count (Some (next_receipt log)); effect = effect.CommitThis (commit.Change net) }
    else record { reply = told.Changed count None; effect = other })
    ≡ told.Changed count (if b then Some (next_receipt log) else None)
changed_reply log count net other true = refl
changed_reply log count net other false = refl

rows_reply : (machine : Machine) (number : ℕ) (active : OpenTransaction) (count : ℕ) (net : List TableNet) (held : Option (ℕ × ℕ))
    → (rows_outcome machine number active count net held).reply
    ≡ answer_rows machine number (active.fresh && not (is_empty net)) count held
rows_reply machine number active count net (Some at) = refl
rows_reply machine number active count net None =
    changed_reply machine.commits count net (if active.fresh then effect.End else effect.Keep net) (active.fresh && not (is_empty net))

net_reply : (machine : Machine) (number : ℕ) (active : OpenTransaction) (count : ℕ) (net : List TableNet) (held : Option (ℕ × ℕ))
    (size : Option Refusal)
    → (elim size as (λ x. Outcome) [
      | Some refusal ↦ refuse active form.Change refusal
      | None ↦ rows_outcome machine number active count net held
    ]).reply
    ≡ elim size as (λ x. Reply) [
      | Some refusal ↦ told.Refused refusal
      | None ↦ answer_rows machine number (active.fresh && not (is_empty net)) count held
    ]
net_reply machine number active count net held (Some refusal) = refl
net_reply machine number active count net held None = rows_reply machine number active count net held

change_reply : (machine : Machine) (number : ℕ) (active : OpenTransaction) (m : Meaning) (net : List TableNet) (writes : Option WriteSet)
    → (change_outcome machine number active m net writes).reply ≡ answer_change machine number active m net writes
change_reply machine number active (meant.Change count part) net writes =
    net_reply machine number active count net (least_blocked machine number active.start writes) (size_refusal net)
change_reply machine number active (meant.Refused refusal) net writes = refl
change_reply machine number active other net writes = refl

open_reply : (opened : List Table) (machine : Machine) (number : ℕ) (active : OpenTransaction) (statement : Statement) (kind : Kind)
    → (open_outcome opened machine number active statement kind).reply ≡ answer_open opened machine number active statement kind
open_reply opened machine number active statement form.Begin =
    reply_if active.fresh (stay (told.Begun active.start)) (stay (told.Refused why.InTransaction))
open_reply opened machine number active statement form.Commit = commit_reply machine.commits active.net
open_reply opened machine number active statement form.Rollback = refl
open_reply opened machine number active statement form.Checkpoint = refl
open_reply opened machine number active statement form.Create =
    let m = meaning (after opened machine.commits (length machine.commits)) statement in
    reply_if active.fresh (create_outcome machine.commits m) (stay (told.Refused why.InTransaction))
    ∙ ap (λ r. if active.fresh then r else told.Refused why.InTransaction) (create_reply machine.commits m)
open_reply opened machine number active statement form.Select =
    select_reply active (meaning_in opened machine.commits active (Good statement))
open_reply opened machine number active statement form.Change =
    let m = meaning_in opened machine.commits active (Good statement) in
    change_reply machine number active m (net_after opened machine.commits active m) (write_set opened machine.commits active m)

pub outcome_answers : (opened : List Table) (iteration : ℕ) (machine : Machine) (number : ℕ) (transaction : Transaction) (asked : Asked)
    → (outcome opened iteration machine number transaction asked).reply ≡ answer opened iteration machine number transaction asked
outcome_answers opened iteration machine number transaction Unread = refl
outcome_answers opened iteration machine number transaction (Bad at) = refl
outcome_answers opened iteration machine number state.Outside (Good statement) = refl
outcome_answers opened iteration machine number state.Aborted (Good statement) = aborted_reply (kind_of statement)
outcome_answers opened iteration machine number (state.Open active) (Good statement) =
    open_reply opened machine number active statement (kind_of statement)

-- the effects
record Moves (active : OpenTransaction) (move : Transition) (behind : Effect) : Type 0 where
  transaction : move.transaction ≡ open_after active behind
  commit : move.commit ≡ open_commit active behind

abbrev by_flags : Bool → Bool → Effect
by_flags own ab = if own then effect.End else (if ab then effect.Abort else effect.Stay)

abbrev refused_move : OpenTransaction → Bool → Bool → Transition
refused_move active own ab =
    if own then end_with active.net None
    else (if ab then record { transaction = state.Aborted; commit = None; net = active.net } else stay_open active active.net)

flagged : (active : OpenTransaction) (own ab : Bool) → Moves active (refused_move active own ab) (by_flags own ab)
flagged active true ab = record { transaction = refl; commit = refl }
flagged active false true = record { transaction = refl; commit = refl }
flagged active false false = record { transaction = refl; commit = refl }

-- a refusal where it is known whether the transaction is the statement's own, and whether it is aborted
refused_moves : (active : OpenTransaction) (asked : Option Asked) (refusal : Refusal) (own ab : Bool)
    → is_own active asked ≡ own → asks_for (aborts refusal) asked ≡ ab
    → Moves active (refusal_transition active asked refusal) (by_flags own ab)
refused_moves active asked refusal own ab mine over =
    subst (λ b. Moves active (refusal_transition active asked refusal) (by_flags b ab)) mine
    (subst (λ b. Moves active (refusal_transition active asked refusal) (by_flags (is_own active asked) b)) over
    (flagged active (is_own active asked) (asks_for (aborts refusal) asked)))

and_false : (b : Bool) → (b && false) ≡ false
and_false true = refl
and_false false = refl

and_true : (b : Bool) → (b && true) ≡ b
and_true true = refl
and_true false = refl

moves_if : (active : OpenTransaction) (move : Reply → Transition) (b : Bool) (x y : Outcome)
    → (b ≡ true → Moves active (move x.reply) x.effect) → (b ≡ false → Moves active (move y.reply) y.effect)
    → Moves active (move (if b then x else y).reply) (if b then x else y).effect
moves_if active move true x y first second = first refl
moves_if active move false x y first second = second refl

-- what an outcome must be of
abbrev Is : List Table → List Commit → OpenTransaction → Asked → Outcome → Type 0
Is opened commits active asked outcome =
    Moves active (transition opened commits active (Some asked) outcome.reply) outcome.effect

-- a statement of that kind in an open transaction
module _ (opened : List Table) (machine : Machine) (number : ℕ) (active : OpenTransaction) (statement : Statement) where
  abbrev so : Outcome → Type 0
  so outcome = Is opened machine.commits active (Good statement) outcome

  -- a statement that has no transaction of its own is refused, and the transaction goes on
  refused_stays : (kind : Kind) (refusal : Refusal) → kind_of statement ≡ kind → (active.fresh && has_own kind) ≡ false
      → aborts refusal kind ≡ false → so (stay (told.Refused refusal))
  refused_stays kind refusal is own ab =
      refused_moves active (Some (Good statement)) refusal false false
      (ap (λ k. active.fresh && has_own k) is ∙ own) (ap (aborts refusal) is ∙ ab)

  refused_so : (kind : Kind) (refusal : Refusal) → kind_of statement ≡ kind → so (refuse active kind refusal)
  refused_so kind refusal is =
      refused_moves active (Some (Good statement)) refusal (active.fresh && has_own kind) (aborts refusal kind)
      (ap (λ k. active.fresh && has_own k) is) (ap (aborts refusal) is)

  -- a statement in a transaction of its own is refused, and that is over
  refused_ends : (kind : Kind) (refusal : Refusal) → kind_of statement ≡ kind → (active.fresh && has_own kind) ≡ true
      → so (record { reply = told.Refused refusal; effect = effect.End })
  refused_ends kind refusal is own =
      refused_moves active (Some (Good statement)) refusal true (aborts refusal (kind_of statement))
      (ap (λ k. active.fresh && has_own k) is ∙ own) refl

  commit_moves : (net : List TableNet) → so (commit_outcome machine.commits net)
  commit_moves [] = record { transaction = refl; commit = refl }
  commit_moves (part ∷ net) = record { transaction = refl; commit = refl }

  create_moves : kind_of statement ≡ form.Create → active.fresh ≡ true → (m : Meaning)
      → meaning (after opened machine.commits (length machine.commits)) statement ≡ m → so (create_outcome machine.commits m)
  create_moves is fresh (meant.Create name schema) e = record { transaction = refl; commit = ap creation e }
  create_moves is fresh (meant.Refused refusal) e = refused_ends form.Create refusal is (ap (λ b. b && true) fresh)
  create_moves is fresh other e = refused_ends form.Create why.Unsupported is (ap (λ b. b && true) fresh)

  own_moves : (own : Bool) → Moves active (if own then end_with active.net None else stay_open active active.net) (if own then effect.End else effect.Stay)
  own_moves true = record { transaction = refl; commit = refl }
  own_moves false = record { transaction = refl; commit = refl }

  select_moves : kind_of statement ≡ form.Select → (m : Meaning) → so (select_outcome active m)
  select_moves is (meant.Rows rows) =
      subst (λ k. Moves active (transition opened machine.commits active (Some (Good statement)) (told.Rows rows)) (own_effect active k)) is
      (own_moves (active.fresh && has_own (kind_of statement)))
  select_moves is (meant.Refused refusal) = refused_so form.Select refusal is
  select_moves is other = refused_so form.Select why.Unsupported is

  kept_moves : (net : List TableNet) (own fresh : Bool) → own ≡ fresh
      → Moves active (if own then end_with net None else stay_open active net) (if fresh then effect.End else effect.Keep net)
  kept_moves net true true same = record { transaction = refl; commit = refl }
  kept_moves net false false same = record { transaction = refl; commit = refl }
  kept_moves net true false same = absurd (false≢true (sym same))
  kept_moves net false true same = absurd (false≢true same)

  changed_moves : kind_of statement ≡ form.Change → (count : ℕ) (net : List TableNet)
      → net_behind opened machine.commits active (Some (Good statement)) ≡ net → (b : Bool)
      → so (if b then record { reply = told.Changed count (Some (next_receipt machine.commits)); effect = effect.CommitThis (commit.Change net) }
      else record { reply = told.Changed count None; effect = if active.fresh then effect.End else effect.Keep net })
  changed_moves is count net e true = record { transaction = refl; commit = ap (λ n. Some (commit.Change n)) e }
  changed_moves is count net e false =
      subst (λ n. Moves active (change_transition active (Some (Good statement)) n None) (if active.fresh then effect.End else effect.Keep net)) (sym e)
      (kept_moves net (active.fresh && has_own (kind_of statement)) active.fresh
      (ap (λ k. active.fresh && has_own k) is ∙ and_true active.fresh))

  rows_moves : kind_of statement ≡ form.Change → (count : ℕ) (net : List TableNet)
      → net_behind opened machine.commits active (Some (Good statement)) ≡ net → (held : Option (ℕ × ℕ))
      → so (rows_outcome machine number active count net held)
  rows_moves is count net e (Some at) = refused_so form.Change (why.Conflict at.0 at.1 (holder_of machine number at.0 at.1)) is
  rows_moves is count net e None = changed_moves is count net e (active.fresh && not (is_empty net))

  net_moves : kind_of statement ≡ form.Change → (count : ℕ) (net : List TableNet)
      → net_behind opened machine.commits active (Some (Good statement)) ≡ net → (held : Option (ℕ × ℕ)) (size : Option Refusal)
      → so (elim size as (λ x. Outcome) [
        | Some refusal ↦ refuse active form.Change refusal
        | None ↦ rows_outcome machine number active count net held
      ])
  net_moves is count net e held (Some refusal) = refused_so form.Change refusal is
  net_moves is count net e held None = rows_moves is count net e held

  change_moves : kind_of statement ≡ form.Change → (m : Meaning) (net : List TableNet) (writes : Option WriteSet)
      → net_behind opened machine.commits active (Some (Good statement)) ≡ net
      → so (change_outcome machine number active m net writes)
  change_moves is (meant.Change count part) net writes e =
      net_moves is count net e (least_blocked machine number active.start writes) (size_refusal net)
  change_moves is (meant.Refused refusal) net writes e = refused_so form.Change refusal is
  change_moves is other net writes e = refused_so form.Change why.Unsupported is

  open_moves : (kind : Kind) → kind_of statement ≡ kind → so (open_outcome opened machine number active statement kind)
  open_moves form.Begin is =
      moves_if active (transition opened machine.commits active (Some (Good statement))) active.fresh
      (stay (told.Begun active.start)) (stay (told.Refused why.InTransaction))
      (λ fresh. record { transaction = refl; commit = refl })
      (λ fresh. refused_stays form.Begin why.InTransaction is (and_false active.fresh) refl)
  open_moves form.Commit is = commit_moves active.net
  open_moves form.Rollback is = record { transaction = refl; commit = refl }
  open_moves form.Checkpoint is = refused_stays form.Checkpoint why.InTransaction is (and_false active.fresh) refl
  open_moves form.Create is =
      let m = meaning (after opened machine.commits (length machine.commits)) statement in
      moves_if active (transition opened machine.commits active (Some (Good statement))) active.fresh
      (create_outcome machine.commits m) (stay (told.Refused why.InTransaction))
      (λ fresh. create_moves is fresh m refl)
      (λ fresh. refused_stays form.Create why.InTransaction is (ap (λ b. b && true) fresh) refl)
  open_moves form.Select is = select_moves is (meaning_in opened machine.commits active (Good statement))
  open_moves form.Change is =
      let m = meaning_in opened machine.commits active (Good statement) in
      change_moves is m (net_after opened machine.commits active m) (write_set opened machine.commits active m) refl

-- a call that is not a statement leaves the transaction open
told_unread : (opened : List Table) (commits : List Commit) (active : OpenTransaction) → Is opened commits active Unread (stay (told.Refused why.OutOfMemory))
told_unread opened commits active = refused_moves active (Some Unread) why.OutOfMemory false false (and_false active.fresh) refl

told_bad : (opened : List Table) (commits : List Commit) (active : OpenTransaction) (at : ℕ)
    → Is opened commits active (Bad at) (stay (told.Refused (why.Syntax at)))
told_bad opened commits active at = refused_moves active (Some (Bad at)) (why.Syntax at) false false (and_false active.fresh) refl

open_is : (opened : List Table) (iteration : ℕ) (machine : Machine) (number : ℕ) (active : OpenTransaction) (asked : Asked)
    → Is opened machine.commits active asked (outcome opened iteration machine number (state.Open active) asked)
open_is opened iteration machine number active Unread = told_unread opened machine.commits active
open_is opened iteration machine number active (Bad at) = told_bad opened machine.commits active at
open_is opened iteration machine number active (Good statement) =
    open_moves opened machine number active statement (kind_of statement) refl

aborted_is : (opened : List Table) (commits : List Commit) (asked : Asked) (kind : Kind)
    → transaction_behind opened commits state.Aborted asked (aborted_outcome kind).reply
    ≡ transaction_after state.Aborted (aborted_outcome kind).effect
aborted_is opened commits asked form.Rollback = refl
aborted_is opened commits asked other = refl

pub outcome_transaction : (opened : List Table) (iteration : ℕ) (machine : Machine) (number : ℕ) (transaction : Transaction) (asked : Asked)
    → transaction_behind opened machine.commits transaction asked (outcome opened iteration machine number transaction asked).reply
    ≡ transaction_after transaction (outcome opened iteration machine number transaction asked).effect
outcome_transaction opened iteration machine number state.Outside asked = refl
outcome_transaction opened iteration machine number state.Aborted Unread = refl
outcome_transaction opened iteration machine number state.Aborted (Bad at) = refl
outcome_transaction opened iteration machine number state.Aborted (Good statement) =
    aborted_is opened machine.commits (Good statement) (kind_of statement)
outcome_transaction opened iteration machine number (state.Open active) asked =
    (open_is opened iteration machine number active asked).transaction

pub outcome_commit : (opened : List Table) (iteration : ℕ) (machine : Machine) (number : ℕ) (transaction : Transaction) (asked : Asked)
    → commit_in opened machine.commits transaction asked (outcome opened iteration machine number transaction asked).reply
    ≡ commit_of transaction (outcome opened iteration machine number transaction asked).effect
outcome_commit opened iteration machine number state.Outside asked = refl
outcome_commit opened iteration machine number state.Aborted asked = refl
outcome_commit opened iteration machine number (state.Open active) asked =
    (open_is opened iteration machine number active asked).commit

-- want of memory, where it may want
flags_none : (active : OpenTransaction) (own ab : Bool) → open_commit active (by_flags own ab) ≡ None
flags_none active true ab = refl
flags_none active false true = refl
flags_none active false false = refl

lack_moves : (active : OpenTransaction) (statement : Statement)
    → Moves active (refusal_transition active (Some (Good statement)) why.OutOfMemory) (refusal_effect active (kind_of statement) why.OutOfMemory)
lack_moves active statement =
    refused_moves active (Some (Good statement)) why.OutOfMemory (active.fresh && has_own (kind_of statement))
    (aborts why.OutOfMemory (kind_of statement)) refl refl

pub lack_transaction : (opened : List Table) (commits : List Commit) (transaction : Transaction) (asked : Asked)
    → may_lack transaction asked ≡ true
    → transaction_behind opened commits transaction asked (told.Refused why.OutOfMemory)
    ≡ transaction_after transaction (lack_effect transaction asked)
lack_transaction opened commits state.Outside asked may = absurd (false≢true may)
lack_transaction opened commits state.Aborted asked may = absurd (false≢true may)
lack_transaction opened commits (state.Open active) Unread may = absurd (false≢true may)
lack_transaction opened commits (state.Open active) (Bad at) may = absurd (false≢true may)
lack_transaction opened commits (state.Open active) (Good statement) may = (lack_moves active statement).transaction

pub lack_commit : (opened : List Table) (commits : List Commit) (transaction : Transaction) (asked : Asked)
    → may_lack transaction asked ≡ true
    → commit_in opened commits transaction asked (told.Refused why.OutOfMemory) ≡ None
lack_commit opened commits state.Outside asked may = absurd (false≢true may)
lack_commit opened commits state.Aborted asked may = absurd (false≢true may)
lack_commit opened commits (state.Open active) Unread may = absurd (false≢true may)
lack_commit opened commits (state.Open active) (Bad at) may = absurd (false≢true may)
lack_commit opened commits (state.Open active) (Good statement) may =
    (lack_moves active statement).commit
    ∙ flags_none active (active.fresh && has_own (kind_of statement)) (aborts why.OutOfMemory (kind_of statement))

-- an effect that is no commit
pub none_committed : (transaction : Transaction) (behind : Effect) → commits behind ≡ false → commit_of transaction behind ≡ None
none_committed state.Outside behind none = refl
none_committed state.Aborted behind none = refl
none_committed (state.Open active) effect.CommitOwn none = absurd (false≢true (sym none))
none_committed (state.Open active) (effect.CommitThis commit) none = absurd (false≢true (sym none))
none_committed (state.Open active) other none = refl
