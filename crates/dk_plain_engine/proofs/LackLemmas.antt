-- Where memory may want, and what a reply that is no CHECKPOINT's leaves of the iteration.
use Rattle.std.proofs.Common.{◌≡◌, ℕ, ◌≤◌, ◌+◌, ◌-◌, Bool, true, false, List, [], ◌∷◌, length, Option, Some, None, ap, ◌∙◌, sym, refl, subst, arith, ⊎_elim}
use Rattle.std.specs.Prelude.{◌&&◌, ◌||◌, not, if◌then◌else◌, ◌==◌}
use Rattle.std.proofs.lemmas.Bool.{false≢true, or_right, eqb-false, cases_lt}
use Rattle.dk_types.specs.declared.net.Commit.{Commit}
use Rattle.dk_types.specs.declared.net.Commit.TheVariants as commit
use Rattle.dk_types.specs.declared.net.TableNet.{TableNet}
use Rattle.dk_types.specs.declared.reply.Refusal.{Refusal}
use Rattle.dk_types.specs.declared.reply.Refusal.TheVariants as why
use Rattle.dk_types.specs.declared.reply.Reply.{Reply}
use Rattle.dk_types.specs.declared.reply.Reply.TheVariants as told
use Rattle.dk_syntax.specs.declared.statement.Statement.{Statement}
use Rattle.dk_si.specs.declared.database.Table.{Table}
use Rattle.dk_si.specs.declared.history.Asked.{Asked}
use Rattle.dk_si.specs.declared.history.Asked.TheVariants.{Unread, Bad, Good}
use Rattle.dk_si.specs.declared.kind.Kind.{Kind}
use Rattle.dk_si.specs.declared.kind.Kind.TheVariants as form
use Rattle.dk_si.specs.declared.limits.TheConstants.{MAX_ITERATION}
use Rattle.dk_si.specs.declared.machine.Machine.{Machine}
use Rattle.dk_si.specs.declared.machine.OpenTransaction.{OpenTransaction}
use Rattle.dk_si.specs.declared.machine.Transaction.{Transaction}
use Rattle.dk_si.specs.declared.machine.Transaction.TheVariants as state
use Rattle.dk_si.specs.declared.machine.WriteSet.{WriteSet}
use Rattle.dk_si.specs.declared.meaning.Meaning.{Meaning}
use Rattle.dk_si.specs.declared.meaning.Meaning.TheVariants as meant
use Rattle.dk_si.specs.Answer.{answer_outside, next_receipt, least_blocked}
use Rattle.dk_si.specs.Database.{after}
use Rattle.dk_si.specs.Machine.{kind_of, meaning_in, net_after, write_set}
use Rattle.dk_si.specs.MayAnswer.{may_answer, open_answers, commit_answers, is_meant_refusal, is_refused_from}
use Rattle.dk_si.specs.Meaning.{meaning}
use Rattle.dk_si.specs.Nets.{is_empty}
use Rattle.dk_si.specs.Size.{size_refusal}
use Rattle.dk_alone.specs.AnswerHistory.{iteration_behind}
use Rattle.dk_plain_engine.specs.declared.effect.Effect.TheVariants as effect
use Rattle.dk_plain_engine.specs.declared.effect.Outcome.{Outcome}
use Rattle.dk_plain_engine.specs.Outcomes.{commits, is_conflict, stay, refuse, create_outcome, select_outcome, rows_outcome}
use Rattle.dk_plain_engine.specs.Outcomes.{change_outcome, commit_outcome, open_outcome, aborted_outcome, outcome}
use Rattle.dk_plain_engine.specs.Turns.{takes_memory, may_lack}

-- nothing in this outcome takes memory
record IsQuiet (outcome : Outcome) : Type 0 where
  quiet : commits outcome.effect ≡ false
  free : is_conflict outcome.reply ≡ false

quiet_if : (b : Bool) (x y : Outcome) → IsQuiet x → IsQuiet y → IsQuiet (if b then x else y)
quiet_if true x y first second = first
quiet_if false x y first second = second

-- an outcome is quiet, or its statement takes memory
abbrev Takes : Bool → Outcome → Type 0
Takes takes outcome = takes ≡ false → IsQuiet outcome

fresh_or : (b : Bool) (x y : Outcome) → IsQuiet y → Takes b (if b then x else y)
fresh_or true x y quiet none = absurd (false≢true (sym none))
fresh_or false x y quiet none = quiet

commit_takes : (commits : List Commit) (net : List TableNet) → Takes (not (is_empty net)) (commit_outcome commits net)
commit_takes commits [] none = record { quiet = refl; free = refl }
commit_takes commits (part ∷ net) none = absurd (false≢true (sym none))

open_takes : (opened : List Table) (machine : Machine) (number : ℕ) (active : OpenTransaction) (statement : Statement) (kind : Kind)
    → Takes (takes_memory active kind) (open_outcome opened machine number active statement kind)
open_takes opened machine number active statement form.Begin none =
    quiet_if active.fresh (stay (told.Begun active.start)) (stay (told.Refused why.InTransaction))
    (record { quiet = refl; free = refl }) (record { quiet = refl; free = refl })
open_takes opened machine number active statement form.Commit none = commit_takes machine.commits active.net none
open_takes opened machine number active statement form.Rollback none = record { quiet = refl; free = refl }
open_takes opened machine number active statement form.Checkpoint none = record { quiet = refl; free = refl }
open_takes opened machine number active statement form.Create none =
    fresh_or active.fresh (create_outcome machine.commits (meaning (after opened machine.commits (length machine.commits)) statement))
    (stay (told.Refused why.InTransaction)) (record { quiet = refl; free = refl }) none
open_takes opened machine number active statement form.Select none = absurd (false≢true (sym none))
open_takes opened machine number active statement form.Change none = absurd (false≢true (sym none))

aborted_quiet : (kind : Kind) → IsQuiet (aborted_outcome kind)
aborted_quiet form.Rollback = record { quiet = refl; free = refl }
aborted_quiet other = record { quiet = refl; free = refl }

checkpoint_free : (b : Bool) (x y : Reply) → is_conflict x ≡ false → is_conflict y ≡ false → is_conflict (if b then x else y) ≡ false
checkpoint_free true x y first second = first
checkpoint_free false x y first second = second

outside_free : (opened : List Table) (iteration : ℕ) (machine : Machine) (kind : Kind)
    → is_conflict (answer_outside opened iteration machine kind) ≡ false
outside_free opened iteration machine form.Commit = refl
outside_free opened iteration machine form.Rollback = refl
outside_free opened iteration machine form.Checkpoint = checkpoint_free (iteration == MAX_ITERATION)
    (told.Refused (why.Exhausted (record { clock = 0; rows = 0; transactions = 0; iteration = MAX_ITERATION })))
    (told.Checkpointed (iteration + 1)) refl refl
outside_free opened iteration machine other = refl

outcome_takes : (opened : List Table) (iteration : ℕ) (machine : Machine) (number : ℕ) (transaction : Transaction) (asked : Asked)
    → Takes (may_lack transaction asked) (outcome opened iteration machine number transaction asked)
outcome_takes opened iteration machine number transaction Unread none = record { quiet = refl; free = refl }
outcome_takes opened iteration machine number transaction (Bad at) none = record { quiet = refl; free = refl }
outcome_takes opened iteration machine number state.Outside (Good statement) none =
    record { quiet = refl; free = outside_free opened iteration machine (kind_of statement) }
outcome_takes opened iteration machine number state.Aborted (Good statement) none = aborted_quiet (kind_of statement)
outcome_takes opened iteration machine number (state.Open active) (Good statement) none =
    open_takes opened machine number active statement (kind_of statement) none

not_both : (takes test : Bool) → (takes ≡ false → test ≡ false) → test ≡ true → takes ≡ true
not_both true test only is = refl
not_both false test only is = absurd (false≢true (sym (only refl) ∙ is))

-- where a commit is made, or a conflict is told, memory may want
pub commits_take : (opened : List Table) (iteration : ℕ) (machine : Machine) (number : ℕ) (transaction : Transaction) (asked : Asked)
    → commits (outcome opened iteration machine number transaction asked).effect ≡ true → may_lack transaction asked ≡ true
commits_take opened iteration machine number transaction asked is =
    not_both (may_lack transaction asked) (commits (outcome opened iteration machine number transaction asked).effect)
    (λ none. (outcome_takes opened iteration machine number transaction asked none).quiet) is

pub conflicts_take : (opened : List Table) (iteration : ℕ) (machine : Machine) (number : ℕ) (transaction : Transaction) (asked : Asked)
    → is_conflict (outcome opened iteration machine number transaction asked).reply ≡ true → may_lack transaction asked ≡ true
conflicts_take opened iteration machine number transaction asked is =
    not_both (may_lack transaction asked) (is_conflict (outcome opened iteration machine number transaction asked).reply)
    (λ none. (outcome_takes opened iteration machine number transaction asked none).free) is

-- the iteration behind what a call comes to
abbrev Keeps : ℕ → Outcome → Type 0
Keeps iteration outcome = iteration_behind iteration outcome.reply ≡ iteration

keeps_if : (iteration : ℕ) (b : Bool) (x y : Outcome) → Keeps iteration x → Keeps iteration y → Keeps iteration (if b then x else y)
keeps_if iteration true x y first second = first
keeps_if iteration false x y first second = second

create_keeps : (iteration : ℕ) (commits : List Commit) (m : Meaning) → Keeps iteration (create_outcome commits m)
create_keeps iteration commits (meant.Create name schema) = refl
create_keeps iteration commits (meant.Refused refusal) = refl
create_keeps iteration commits other = refl

select_keeps : (iteration : ℕ) (active : OpenTransaction) (m : Meaning) → Keeps iteration (select_outcome active m)
select_keeps iteration active (meant.Rows rows) = refl
select_keeps iteration active (meant.Refused refusal) = refl
select_keeps iteration active other = refl

commit_keeps : (iteration : ℕ) (commits : List Commit) (net : List TableNet) → Keeps iteration (commit_outcome commits net)
commit_keeps iteration commits [] = refl
commit_keeps iteration commits (part ∷ net) = refl

rows_keep : (iteration : ℕ) (machine : Machine) (number : ℕ) (active : OpenTransaction) (count : ℕ) (net : List TableNet) (held : Option (ℕ × ℕ))
    → Keeps iteration (rows_outcome machine number active count net held)
rows_keep iteration machine number active count net (Some at) = refl
rows_keep iteration machine number active count net None =
    keeps_if iteration (active.fresh && not (is_empty net))
    (record { reply = told.Changed count (Some (next_receipt machine.commits)); effect = effect.CommitThis (commit.Change net) })
    (record { reply = told.Changed count None; effect = if active.fresh then effect.End else effect.Keep net }) refl refl

net_keeps : (iteration : ℕ) (machine : Machine) (number : ℕ) (active : OpenTransaction) (count : ℕ) (net : List TableNet) (held : Option (ℕ × ℕ))
    (size : Option Refusal)
    → Keeps iteration (elim size as (λ x. Outcome) [
      | Some refusal ↦ refuse active form.Change refusal
      | None ↦ rows_outcome machine number active count net held
    ])
net_keeps iteration machine number active count net held (Some refusal) = refl
net_keeps iteration machine number active count net held None = rows_keep iteration machine number active count net held

change_keeps : (iteration : ℕ) (machine : Machine) (number : ℕ) (active : OpenTransaction) (m : Meaning) (net : List TableNet) (writes : Option WriteSet)
    → Keeps iteration (change_outcome machine number active m net writes)
change_keeps iteration machine number active (meant.Change count part) net writes =
    net_keeps iteration machine number active count net (least_blocked machine number active.start writes) (size_refusal net)
change_keeps iteration machine number active (meant.Refused refusal) net writes = refl
change_keeps iteration machine number active other net writes = refl

open_keeps : (iteration : ℕ) (opened : List Table) (machine : Machine) (number : ℕ) (active : OpenTransaction) (statement : Statement) (kind : Kind)
    → Keeps iteration (open_outcome opened machine number active statement kind)
open_keeps iteration opened machine number active statement form.Begin =
    keeps_if iteration active.fresh (stay (told.Begun active.start)) (stay (told.Refused why.InTransaction)) refl refl
open_keeps iteration opened machine number active statement form.Commit = commit_keeps iteration machine.commits active.net
open_keeps iteration opened machine number active statement form.Rollback = refl
open_keeps iteration opened machine number active statement form.Checkpoint = refl
open_keeps iteration opened machine number active statement form.Create =
    let m = meaning (after opened machine.commits (length machine.commits)) statement in
    keeps_if iteration active.fresh (create_outcome machine.commits m) (stay (told.Refused why.InTransaction))
    (create_keeps iteration machine.commits m) refl
open_keeps iteration opened machine number active statement form.Select =
    select_keeps iteration active (meaning_in opened machine.commits active (Good statement))
open_keeps iteration opened machine number active statement form.Change =
    let m = meaning_in opened machine.commits active (Good statement) in
    change_keeps iteration machine number active m (net_after opened machine.commits active m) (write_set opened machine.commits active m)

aborted_keeps : (iteration : ℕ) (kind : Kind) → Keeps iteration (aborted_outcome kind)
aborted_keeps iteration form.Rollback = refl
aborted_keeps iteration other = refl

next_within : (iteration most : ℕ) (b : Bool) → (iteration == most) ≡ b → iteration ≤ most
    → iteration_behind iteration (if b then told.Refused (why.Exhausted (record { clock = 0; rows = 0; transactions = 0; iteration = most }))
    else told.Checkpointed (iteration + 1)) ≤ most
next_within iteration most true is within = within
next_within iteration most false is within =
    below iteration most within (eqb-false iteration most is)
  where
    below : (n most : ℕ) → n ≤ most → (n ≡ most → ⊥) → n + 1 ≤ most
    below n most le other = ⊎_elim (λ less. omega (arith, less)) (λ more. absurd (other (omega (arith, le, more)))) (cases_lt n most)

outside_within : (opened : List Table) (iteration : ℕ) (machine : Machine) (kind : Kind) → iteration ≤ MAX_ITERATION
    → iteration_behind iteration (answer_outside opened iteration machine kind) ≤ MAX_ITERATION
outside_within opened iteration machine form.Commit within = within
outside_within opened iteration machine form.Rollback within = within
outside_within opened iteration machine form.Checkpoint within = next_within iteration MAX_ITERATION (iteration == MAX_ITERATION) refl within
outside_within opened iteration machine other within = within

pub outcome_within : (opened : List Table) (iteration : ℕ) (machine : Machine) (number : ℕ) (transaction : Transaction) (asked : Asked)
    → iteration ≤ MAX_ITERATION
    → iteration_behind iteration (outcome opened iteration machine number transaction asked).reply ≤ MAX_ITERATION
outcome_within opened iteration machine number transaction Unread within = within
outcome_within opened iteration machine number transaction (Bad at) within = within
outcome_within opened iteration machine number state.Outside (Good statement) within =
    outside_within opened iteration machine (kind_of statement) within
outcome_within opened iteration machine number state.Aborted (Good statement) within =
    subst (λ n. n ≤ MAX_ITERATION) (sym (aborted_keeps iteration (kind_of statement))) within
outcome_within opened iteration machine number (state.Open active) (Good statement) within =
    subst (λ n. n ≤ MAX_ITERATION) (sym (open_keeps iteration opened machine number active statement (kind_of statement))) within

-- where memory may want, the machine lets a call be refused for it
commit_lacks : (commits : List Commit) (net : List TableNet) → not (is_empty net) ≡ true
    → commit_answers commits net (told.Refused why.OutOfMemory) ≡ true
commit_lacks commits [] takes = absurd (false≢true takes)
commit_lacks commits (part ∷ net) takes = refl

open_lacks : (opened : List Table) (commits : List Commit) (active : OpenTransaction) (statement : Statement) (kind : Kind)
    → takes_memory active kind ≡ true → open_answers opened commits active statement kind (told.Refused why.OutOfMemory) ≡ true
open_lacks opened commits active statement form.Begin takes = absurd (false≢true takes)
open_lacks opened commits active statement form.Rollback takes = absurd (false≢true takes)
open_lacks opened commits active statement form.Checkpoint takes = absurd (false≢true takes)
open_lacks opened commits active statement form.Commit takes = commit_lacks commits active.net takes
open_lacks opened commits active statement form.Create takes =
    ap (λ (b : Bool). if b then (is_refused_from opened commits statement why.OutOfMemory active.start (length commits - active.start) || true) else false) takes
    ∙ or_right (is_refused_from opened commits statement why.OutOfMemory active.start (length commits - active.start)) true refl
open_lacks opened commits active statement form.Select takes =
    or_right (is_meant_refusal (meaning_in opened commits active (Good statement)) why.OutOfMemory) true refl
open_lacks opened commits active statement form.Change takes =
    or_right (is_meant_refusal (meaning_in opened commits active (Good statement)) why.OutOfMemory) true refl

pub lack_passes : (opened : List Table) (commits : List Commit) (transaction : Transaction) (asked : Asked)
    → may_lack transaction asked ≡ true → may_answer opened commits transaction asked (told.Refused why.OutOfMemory) ≡ true
lack_passes opened commits state.Outside asked may = absurd (false≢true may)
lack_passes opened commits state.Aborted asked may = absurd (false≢true may)
lack_passes opened commits (state.Open active) Unread may = absurd (false≢true may)
lack_passes opened commits (state.Open active) (Bad at) may = absurd (false≢true may)
lack_passes opened commits (state.Open active) (Good statement) may =
    open_lacks opened commits active statement (kind_of statement) may
