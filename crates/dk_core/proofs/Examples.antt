-- Lists of events, computed: some that are allowed, and some that are not.
use Rattle.std.specs.Prelude.{◌≡◌, ℕ, Bool, true, false, ◌&&◌, ◌||◌, is_none, nat_le, option_map, List, [], ◌∷◌, ◌++◌, Option, Some, None, pos}
use Rattle.std.proofs.Common.{refl, ap, ◌∙◌, sym}
use Rattle.dk_values.specs.declared.value.Value.{Value}
use Rattle.dk_values.specs.declared.value.Value.TheVariants as value
use Rattle.dk_values.specs.declared.value.ColType.TheVariants as type
use Rattle.dk_values.specs.declared.column.Column.{Column}
use Rattle.dk_syntax.specs.declared.expression.Expr.{Expr}
use Rattle.dk_syntax.specs.declared.expression.Node.{Lit}
use Rattle.dk_syntax.specs.declared.query.Spot.{Spot}
use Rattle.dk_syntax.specs.declared.statement.Statement.{Statement}
use Rattle.dk_syntax.specs.declared.statement.Statement.TheVariants as statement
use Rattle.dk_types.specs.declared.reply.Reply.TheVariants as reply
use Rattle.dk_types.specs.declared.reply.Refusal.{Refusal}
use Rattle.dk_types.specs.declared.reply.Refusal.TheVariants as refusal
use Rattle.dk_types.specs.declared.reply.Holder.TheVariants as holder
use Rattle.dk_si.specs.declared.database.Table.{Table}
use Rattle.dk_si.specs.declared.history.Asked.TheVariants.{Good}
use Rattle.dk_si.specs.IsLegal.{is_legal}
use Rattle.dk_syntax.specs.LawfulStatements.{is_lawful, is_lawful_expr, lawful_node, lawful_place}
use Rattle.dk_si.specs.Machine.{session_at}
use Rattle.dk_values.specs.Names.{is_name}
use Rattle.std.specs.List.{list_all}
use Rattle.std.proofs.lemmas.Bool.{and_from}
use Rattle.dk_si.specs.declared.machine.Session.{Session}
use Rattle.dk_core.specs.declared.seat.Seat.{Seat}
use Rattle.dk_core.specs.Allows.{allows, is_open, may_call, if_both}
use Rattle.dk_core.specs.Step.{step}
use Rattle.dk_core.specs.Reading.{reads}
use Rattle.dk_syntax.specs.declared.statement.Set.{Set}
use Rattle.dk_syntax.specs.declared.expression.Node.TheFolds.{fold-Node, fold-roll-Expr, fold-roll-Node}
use Rattle.dk_syntax.specs.declared.expression.Node.TheOpen.{Node-F}
use Rattle.dk_syntax.specs.declared.expression.Node.TheVariants.{rolls-Lit}
use Rattle.dk_core.specs.declared.event.Event.{Event}
use Rattle.dk_core.specs.declared.event.Event.TheVariants as event
use Rattle.dk_core.specs.declared.event.Done.TheVariants as done
use Rattle.dk_core.specs.Core.{Core, first_core, seat_at}
use Rattle.dk_core.specs.Laws.{core_after, all_allowed}
use Rattle.dk_core.proofs.LegalLemmas.{legal_over_every_list}

-- the table t with a column a, and the rows 10 and 20
abbrev t : List ℕ
t = 116 ∷ []

abbrev a : List ℕ
a = 97 ∷ []

abbrev column : Column
column = record { name = a; kind = type.Big }

abbrev opened : List Table
opened = record {
  name = t;
  schema = column ∷ [];
  rows = Some (value.Big (pos 10) ∷ []) ∷ Some (value.Big (pos 20) ∷ []) ∷ [];
} ∷ []

abbrev start : Core
start = first_core opened 1 32

abbrev spot : List ℕ → Spot
spot name = record { at = 0; name = name }

abbrev number : ℕ → Expr
number n = record { at = 0; node = Lit (value.Big (pos n)) }

-- BEGIN, which sees so many commits
abbrev begin : ℕ → ℕ → List Event
begin session commits = event.Call session (Good statement.Begin) ∷ event.Begin session ∷ event.Reply session
    (reply.Begun commits) ∷ []

-- DELETE FROM t, and its Change of one row
abbrev erase : ℕ → Event
erase session = event.Call session (Good (statement.Delete (spot t) None))

abbrev erased : ℕ → ℕ → Event
erased session row = event.Change session (record { table = 0; group = 0; vector = 0 })
    (record { table = 0; updates = []; deletes = row ∷ []; rows = [] })

-- INSERT INTO t VALUES (n), and its Append into a group
abbrev insert : ℕ → ℕ → Event
insert session n =
    event.Call session (Good (statement.Insert (spot t) (record { at = 0; values = number n ∷ [] } ∷ [])))

abbrev append : ℕ → ℕ → ℕ → Event
append session group n = event.Append session 0 group 0 ((value.Big (pos n) ∷ []) ∷ [])

-- CREATE TABLE b (a BIGINT), and its first Point, of a table of that name
abbrev create : ℕ → Event
create session =
    event.Call session (Good (statement.Create (spot (98 ∷ [])) (record { column = spot a; kind = type.Big } ∷ [])))

abbrev create_point : ℕ → ℕ → Event
create_point session name = event.Point session (done.Create (name ∷ []) (column ∷ [])) 0

abbrev call_commit : ℕ → Event
call_commit session = event.Call session (Good statement.Commit)

-- session 1 deletes both rows and commits
abbrev two_deletes : List Event
two_deletes = erase 1 ∷ erased 1 0 ∷ erased 1 1 ∷ event.Reply 1 (reply.Changed 2 None) ∷ []

-- a commit is half stamped when session 2 begins: its snapshot has the commit, as it has made its point
abbrev half_stamped : List Event
half_stamped =
    begin 1 0 ++ (two_deletes ++ (call_commit 1 ∷ event.Point 1 done.Commit 7 ∷ event.Stamp 1 ∷ begin 2 1))

half_stamped_allowed : all_allowed start half_stamped ≡ true
half_stamped_allowed = refl

-- what session 2 reads then, and what it reads where it began before the Point
abbrev rows_read : List Event → ℕ → List (Option (List Value))
rows_read events session = reads (core_after start events) session 0

half_stamped_reads : rows_read half_stamped 2 ≡ None ∷ None ∷ []
half_stamped_reads = refl

-- the machine allows these entries
half_stamped_is_legal : is_legal opened 1 (core_after start half_stamped).entries ≡ true
half_stamped_is_legal = legal_over_every_list opened 1 32 half_stamped half_stamped_allowed

-- session 2 begins before the Point: its snapshot has not the commit, whatever is stamped later
abbrev begun_before : List Event
begun_before =
    begin 1 0 ++
    (two_deletes ++ (call_commit 1 ∷ (begin 2 0 ++ (event.Point 1 done.Commit 7 ∷ event.Stamp 1 ∷ []))))

begun_before_allowed : all_allowed start begun_before ≡ true
begun_before_allowed = refl

begun_before_reads : rows_read begun_before 2 ≡ Some (value.Big (pos 10) ∷ []) ∷ Some (value.Big (pos 20) ∷ []) ∷ []
begun_before_reads = refl

-- a snapshot without the pending commit: no core begins so, as the start is the number of the commits
without_pending : all_allowed (core_after start half_stamped) (event.Reply 2 (reply.Begun 0) ∷ []) ≡ false
without_pending = refl

-- of two writers of one row the second is refused, and is told so
abbrev two_writers : List Event
two_writers = begin 1 0 ++ (begin 2 0 ++ (erase 1 ∷ erased 1 0 ∷ erase 2 ∷ erased 2 0 ∷ []))

abbrev first_holds : Refusal
first_holds = refusal.Conflict 0 0 (holder.Transaction 0)

second_finds : option_map (λ seat. seat.found) (seat_at (core_after start two_writers).seats 2) ≡ Some
    (Some first_holds)
second_finds = refl

second_is_refused : all_allowed start (two_writers ++ (event.Reply 2 (reply.Refused first_holds) ∷ event.Leave 2
    ∷ event.Call 2 (Good statement.Rollback) ∷ event.Reply 2 reply.Ended ∷ [])) ≡ true
second_is_refused = refl

-- it is not told that it changed the rows; and the first is not told so before it has changed them all
second_not_changed : all_allowed start (two_writers ++ event.Reply 2 (reply.Changed 2 None) ∷ []) ≡ false
second_not_changed = refl

half_not_changed : all_allowed start (two_writers ++ event.Reply 1 (reply.Changed 2 None) ∷ []) ≡ false
half_not_changed = refl

-- a row is changed once
not_twice : all_allowed start (two_writers ++ erased 1 0 ∷ []) ≡ false
not_twice = refl

-- a rollback undoes the newest version first, and leaves when none is left
rolled_back : all_allowed start
    (two_writers ++ (erased 1 1 ∷ event.Reply 1 (reply.Changed 2 None) ∷ event.Call 1 (Good statement.Rollback)
    ∷ event.Undo 1 ∷ event.Undo 1 ∷ event.Leave 1 ∷ event.Reply 1 reply.Ended ∷ [])) ≡ true
rolled_back = refl

not_left_early : all_allowed start
    (two_writers ++ (erased 1 1 ∷ event.Reply 1 (reply.Changed 2 None) ∷ event.Call 1 (Good statement.Rollback)
    ∷ event.Undo 1 ∷ event.Leave 1 ∷ [])) ≡ false
not_left_early = refl

-- a commit finishes when all is stamped
not_finished_early : all_allowed start
    (begin 1 0 ++ (erase 1 ∷ erased 1 0 ∷ erased 1 1 ∷ event.Reply 1 (reply.Changed 2 None)
    ∷ call_commit 1 ∷ event.Point 1 done.Commit 7 ∷ event.Stamp 1 ∷ event.Finish 1 ∷ [])) ≡ false
not_finished_early = refl

-- an insertion of its own: its row goes into the group that has room, then comes its Point
insertion : all_allowed start
    (insert 1 3 ∷ event.Begin 1 ∷ append 1 0 3 ∷ event.Point 1 (done.Changed 1) 9 ∷ event.Stamp 1 ∷ event.Finish
    1 ∷ []) ≡ true
insertion = refl

-- not into a new group while the last one has room, not before its own call may commit, and no Point before its
-- Append
not_into_new_group : all_allowed start (insert 1 3 ∷ event.Begin 1 ∷ append 1 1 3 ∷ []) ≡ false
not_into_new_group = refl

not_in_transaction : all_allowed start (begin 1 0 ++ (insert 1 3 ∷ append 1 0 3 ∷ [])) ≡ false
not_in_transaction = refl

not_pointed_early : all_allowed start (insert 1 3 ∷ event.Begin 1 ∷ event.Point 1 (done.Changed 1) 9 ∷ []) ≡ false
not_pointed_early = refl

-- from its first Append to its Point a session has no other event, and no other session appends
not_marked : all_allowed start (insert 1 3 ∷ event.Begin 1 ∷ append 1 0 3 ∷ event.Mark 1 ∷ []) ≡ false
not_marked = refl

not_two_at_once : all_allowed start
    (insert 1 3 ∷ event.Begin 1 ∷ insert 2 4 ∷ event.Begin 2 ∷ append 1 0 3 ∷ append 2 0 4 ∷ []) ≡ false
not_two_at_once = refl

-- a creation is two Points with nothing of its session between
creation : all_allowed start
    (create 1 ∷ event.Begin 1 ∷ create_point 1 98 ∷ event.Point 1 done.Created 9 ∷ event.Finish 1 ∷ []) ≡ true
creation = refl

not_of_other_name : all_allowed start (create 1 ∷ event.Begin 1 ∷ create_point 1 99 ∷ []) ≡ false
not_of_other_name = refl

not_created_at_once : all_allowed start (create 1 ∷ event.Begin 1 ∷ event.Point 1 done.Created 9 ∷ []) ≡ false
not_created_at_once = refl

not_between : all_allowed start (create 1 ∷ event.Begin 1 ∷ create_point 1 98 ∷ event.Mark 1 ∷ []) ≡ false
not_between = refl
