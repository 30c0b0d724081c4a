-- Payloads: what is read is spelled there, and what is spelled there is read.
use Rattle.std.proofs.Common.{◌≡◌, ℕ, suc, ◌+◌, Bool, true, false, cond, eqb, List, [], ◌++◌, length, Option, Some, Result, Ok, Err, refl, sym, ap, subst, ◌∙◌, append_assoc, append-nil, length-append, arith}
use Rattle.std.specs.Prelude.{IfOk}
use Rattle.std.specs.Int.{w8, w16, w32, w64, to_le_bytes}
use Rattle.std.proofs.lemmas.Bool.Decides.{Decides-eqb}
use Rattle.dk_values.specs.Columns.{IsSchema}
use Rattle.dk_values.specs.declared.column.Column.{Column}
use Rattle.dk_values.specs.declared.value.Value.{Value}
use Rattle.dk_bytes.specs.Fields.{IsBytes, Place, number_at}
use Rattle.dk_bytes.specs.Reading.{◌>>=◌, or_fault, start, Gives}
use Rattle.dk_bytes.specs.ColumnFields.{IsName, name_bytes, name_at, columns_bytes, columns_at}
use Rattle.dk_bytes.specs.RowFields.{row_bytes, row_at}
use Rattle.dk_bytes.specs.declared.field_error.FieldError.{FieldError}
use Rattle.dk_bytes.proofs.NumberLemmas.{Takes, Takes-then, bind_ok, bind_at, chosen_ok, guard_ok, fault_none, wide8, wide16, wide32, wide64, number_takes, number_again, done, ok_is}
use Rattle.dk_bytes.proofs.PlainValueLemmas.{after}
use Rattle.dk_bytes.proofs.OutcomeLemmas.{gives_found, gives_only, whole_ok, whole_at}
use Rattle.dk_bytes.proofs.SpellLemmas.{before, IsSpelled, IsField}
use Rattle.dk_bytes.proofs.ColumnLemmas.{name_field, columns_field}
use Rattle.dk_bytes.proofs.RowLemmas.{row_takes, row_again}
use Rattle.dk_pages.specs.declared.log.LogTable.{LogTable}
use Rattle.dk_pages.specs.declared.log.LogCommit.{LogCommit}
use Rattle.dk_pages.specs.declared.log.LogCommit.TheVariants.{Create, Change}
use Rattle.dk_pages.specs.declared.tree.TableEntry.{TableEntry}
use Rattle.dk_wal.specs.Counted.{counted, IsCounted, counted_at, any_number, is_behind}
use Rattle.dk_wal.specs.Payload.{update_bytes, id_bytes, table_bytes, payload_bytes, IsUpdate, IsDelete, IsRoot, IsTailRow, is_tail, shares_id, AreDeletes, columns_of, has_entries, IsTable, may_create, IsCreation, are_tables, IsCommit, update_at, delete_at, root_at, tail_row_at, deletes_at, table_at, creation_at, change_at, commit_at, payload_read, IsPayload}
use Rattle.dk_wal.proofs.CountedLemmas.{IsItem, counted_field}

-- ---- the things of a table

update_takes : (columns : List Column) (earlier : List (ℕ × List Value)) (p : Place) (x : (ℕ × List Value) × Place)
    → IsBytes p.rest → update_at columns earlier p ≡ Ok x → IsSpelled (IsUpdate columns earlier) update_bytes p x
unfolding update_at
update_takes columns earlier p x fits e =
    let behind : ℕ → Bool = is_behind (λ (u : ℕ × List Value). u.0) earlier in
    let b = bind_ok (number_at w64 p)
    (λ n. cond (behind n.0) (Ok n) (Err p.at) >>= λ id. row_at columns id.1 >>= λ row. done ((id.0, row.0), row.1)) x e in
    let n = b.0 in
    let t = number_takes w64 wide64 p n fits b.1 in
    let d = bind_ok (cond (behind n.0) (Ok n) (Err p.at))
    (λ id. row_at columns id.1 >>= λ row. done ((id.0, row.0), row.1)) x b.2 in
    let g = chosen_ok (behind n.0) p.at n d.0 d.1 in
    let read : (row_at columns n.1 >>= λ row. done ((n.0, row.0), row.1)) ≡ Ok x
    = subst (λ (k : ℕ × Place). (row_at columns k.1 >>= λ row. done ((k.0, row.0), row.1)) ≡ Ok x) (sym g.1) d.2 in
    let r = bind_ok (row_at columns n.1) (λ row. done ((n.0, row.0), row.1)) x read in
    let u = row_takes columns n.1 r.0 t.0.left r.1 in
    subst (λ (y : (ℕ × List Value) × Place). IsSpelled (IsUpdate columns earlier) update_bytes p y)
    (ok_is ((n.0, r.0.0), r.0.1) x r.2)
    (record {
      lawful = record { fits = t.1; behind = g.0; row = u.lawful };
      takes = Takes-then p n.1 r.0.1 (to_le_bytes w64 n.0) (row_bytes r.0.0) t.0 u.takes;
    })

update_again : (columns : List Column) (earlier : List (ℕ × List Value)) (update : ℕ × List Value) (at : ℕ)
    (rest : List ℕ) → IsUpdate columns earlier update
    → update_at columns earlier (before at (update_bytes update) rest) ≡ Ok (update, after at (update_bytes update) rest)
unfolding update_at
update_again columns earlier update at rest h =
    let place : at + 8 + length (row_bytes update.1) ≡ at + length (update_bytes update) = omega arith in
    rw (
      number_again w64 wide64 update.0 (row_bytes update.1 ++ rest) at h.fits,
      h.behind,
      row_again columns update.1 (at + 8) rest h.row,
      place,
    ) refl

update_item : (columns : List Column) → IsItem (update_at columns) (IsUpdate columns) update_bytes
update_item columns = record { takes = update_takes columns; again = update_again columns }

delete_takes : (earlier : List ℕ) (p : Place) (x : ℕ × Place) → IsBytes p.rest → delete_at earlier p ≡ Ok x
    → IsSpelled (IsDelete earlier) id_bytes p x
unfolding delete_at
delete_takes earlier p x fits e =
    let behind : ℕ → Bool = is_behind (λ (i : ℕ). i) earlier in
    let b = bind_ok (number_at w64 p) (λ n. cond (behind n.0) (Ok n) (Err p.at)) x e in
    let n = b.0 in
    let t = number_takes w64 wide64 p n fits b.1 in
    let g = chosen_ok (behind n.0) p.at n x b.2 in
    subst (λ (y : ℕ × Place). IsSpelled (IsDelete earlier) id_bytes p y) g.1
    (record { lawful = record { fits = t.1; behind = g.0 }; takes = t.0 })

delete_again : (earlier : List ℕ) (id at : ℕ) (rest : List ℕ) → IsDelete earlier id
    → delete_at earlier (before at (id_bytes id) rest) ≡ Ok (id, after at (id_bytes id) rest)
unfolding delete_at
delete_again earlier id at rest h = rw (number_again w64 wide64 id rest at h.fits, h.behind) refl

delete_item : IsItem delete_at IsDelete id_bytes
delete_item = record { takes = delete_takes; again = delete_again }

root_item : IsItem root_at IsRoot id_bytes
root_item = record {
  takes = λ earlier p x fits e. let t = number_takes w64 wide64 p x fits e in
      record { lawful = t.1; takes = t.0 };
  again = λ earlier root at rest h. number_again w64 wide64 root rest at h;
}

tail_item : (columns : List Column) → IsItem (tail_row_at columns) (IsTailRow columns) row_bytes
tail_item columns = record {
  takes = λ earlier p x fits e. row_takes columns p x fits e;
  again = λ earlier row at rest h. row_again columns row at rest h;
}

pub updates_field : (columns : List Column)
    → IsField (counted_at w32 any_number (update_at columns)) (IsCounted w32 any_number (IsUpdate columns))
    (counted w32 update_bytes)
updates_field columns = counted_field w32 wide32 any_number (update_at columns) (IsUpdate columns) update_bytes
    (update_item columns)

ids_field : IsField (counted_at w32 any_number delete_at) (IsCounted w32 any_number IsDelete) (counted w32 id_bytes)
ids_field = counted_field w32 wide32 any_number delete_at IsDelete id_bytes delete_item

deletes_takes : (updates : List (ℕ × List Value)) (p : Place) (x : List ℕ × Place) → IsBytes p.rest
    → deletes_at updates p ≡ Ok x → IsSpelled (AreDeletes updates) (counted w32 id_bytes) p x
unfolding deletes_at
deletes_takes updates p x fits e =
    let b = bind_ok (counted_at w32 any_number delete_at p)
    (λ deletes. cond (shares_id updates deletes.0) (Err p.at) (Ok deletes)) x e in
    let t = ids_field.takes p b.0 fits b.1 in
    let g = guard_ok (shares_id updates b.0.0) p.at b.0 x b.2 in
    subst (λ (y : List ℕ × Place). IsSpelled (AreDeletes updates) (counted w32 id_bytes) p y) g.1
    (record { lawful = record { ids = t.lawful; apart = g.0 }; takes = t.takes })

deletes_again : (updates : List (ℕ × List Value)) (deletes : List ℕ) (at : ℕ) (rest : List ℕ)
    → AreDeletes updates deletes
    → deletes_at updates (before at (counted w32 id_bytes deletes) rest) ≡ Ok
    (deletes, after at (counted w32 id_bytes deletes) rest)
unfolding deletes_at
deletes_again updates deletes at rest h = rw (ids_field.again deletes at rest h.ids, h.apart) refl

deletes_field : (updates : List (ℕ × List Value))
    → IsField (deletes_at updates) (AreDeletes updates) (counted w32 id_bytes)
deletes_field updates = record { takes = deletes_takes updates; again = deletes_again updates }

groups_field : IsField (counted_at w32 any_number root_at) (IsCounted w32 any_number IsRoot) (counted w32 id_bytes)
groups_field = counted_field w32 wide32 any_number root_at IsRoot id_bytes root_item

tail_field : (columns : List Column)
    → IsField (counted_at w32 is_tail (tail_row_at columns)) (IsCounted w32 is_tail (IsTailRow columns))
    (counted w32 row_bytes)
tail_field columns = counted_field w32 wide32 is_tail (tail_row_at columns) (IsTailRow columns) row_bytes
    (tail_item columns)

-- ---- tables

-- the table of these parts
abbrev table_of : ℕ → List (ℕ × List Value) → List ℕ → List ℕ → List (List Value) → LogTable
table_of number updates deletes groups tail =
    record { table = number; updates = updates; deletes = deletes; groups = groups; tail = tail }

abbrev told : ℕ → ℕ → List (ℕ × List Value) → List ℕ → List ℕ → List (List Value) × Place → Result (LogTable × Place) ℕ
told at number updates deletes groups tail =
    cond (has_entries (table_of number updates deletes groups tail.0))
    (Ok (table_of number updates deletes groups tail.0, tail.1)) (Err at)

abbrev then_tail : List Column → ℕ → List (ℕ × List Value) → List ℕ → List ℕ × Place → Result (LogTable × Place) ℕ
then_tail columns number updates deletes groups =
    counted_at w32 is_tail (tail_row_at columns) groups.1
    >>= λ tail. told groups.1.at number updates deletes groups.0 tail

abbrev then_groups : List Column → ℕ → List (ℕ × List Value) → List ℕ × Place → Result (LogTable × Place) ℕ
then_groups columns number updates deletes =
    counted_at w32 any_number root_at deletes.1 >>= λ groups. then_tail columns number updates deletes.0 groups

abbrev then_deletes : List Column → ℕ → List (ℕ × List Value) × Place → Result (LogTable × Place) ℕ
then_deletes columns number updates =
    deletes_at updates.0 updates.1 >>= λ deletes. then_groups columns number updates.0 deletes

abbrev then_updates : ℕ × Place → List Column → Result (LogTable × Place) ℕ
then_updates number columns =
    counted_at w32 any_number (update_at columns) number.1 >>= λ updates. then_deletes columns number.0 updates

table_takes : (tables : List TableEntry) (earlier : List LogTable) (p : Place) (x : LogTable × Place)
    → IsBytes p.rest → table_at tables earlier p ≡ Ok x → IsSpelled (IsTable tables earlier) table_bytes p x
unfolding table_at
table_takes tables earlier p x fits e =
    let b = bind_ok (number_at w32 p)
    (λ n. or_fault p.at (columns_of tables earlier n.0) >>= λ columns. then_updates n columns) x e in
    let n = b.0 in
    let t = number_takes w32 wide32 p n fits b.1 in
    let c = bind_ok (or_fault p.at (columns_of tables earlier n.0)) (λ columns. then_updates n columns) x b.2 in
    let columns = c.0 in
    let u = bind_ok (counted_at w32 any_number (update_at columns) n.1)
    (λ updates. then_deletes columns n.0 updates) x c.2 in
    let tu = (updates_field columns).takes n.1 u.0 t.0.left u.1 in
    let d = bind_ok (deletes_at u.0.0 u.0.1) (λ deletes. then_groups columns n.0 u.0.0 deletes) x u.2 in
    let td = (deletes_field u.0.0).takes u.0.1 d.0 tu.takes.left d.1 in
    let g = bind_ok (counted_at w32 any_number root_at d.0.1) (λ groups. then_tail columns n.0 u.0.0 d.0.0 groups) x d.2 in
    let tg = groups_field.takes d.0.1 g.0 td.takes.left g.1 in
    let r = bind_ok (counted_at w32 is_tail (tail_row_at columns) g.0.1)
    (λ tail. told g.0.1.at n.0 u.0.0 d.0.0 g.0.0 tail) x g.2 in
    let tr = (tail_field columns).takes g.0.1 r.0 tg.takes.left r.1 in
    let table = table_of n.0 u.0.0 d.0.0 g.0.0 r.0.0 in
    let s = chosen_ok (has_entries table) g.0.1.at (table, r.0.1) x r.2 in
    let rows = Takes-then d.0.1 g.0.1 r.0.1 (counted w32 id_bytes g.0.0) (counted w32 row_bytes r.0.0) tg.takes tr.takes in
    let gone = Takes-then u.0.1 d.0.1 r.0.1 (counted w32 id_bytes d.0.0) _ td.takes rows in
    let changed = Takes-then n.1 u.0.1 r.0.1 (counted w32 update_bytes u.0.0) _ tu.takes gone in
    subst (λ (y : LogTable × Place). IsSpelled (IsTable tables earlier) table_bytes p y) s.1
    (record {
      lawful = record {
        columns = columns;
        fits = t.1;
        known = fault_none p.at (columns_of tables earlier n.0) columns c.1;
        updates = tu.lawful;
        deletes = td.lawful;
        groups = tg.lawful;
        tail = tr.lawful;
        some = s.0;
      };
      takes = Takes-then p n.1 r.0.1 (to_le_bytes w32 n.0) _ t.0 changed;
    })

-- a field that is read again, and then what follows it
field_then : {A B : Type 0} (read : Place → Result (A × Place) ℕ) (Is : A → Type 0) (spell : A → List ℕ)
    → IsField read Is spell → (f : A × Place → Result B ℕ) (x : A) (at : ℕ) (more rest : List ℕ) (all : Result B ℕ)
    → Is x → f (x, record { at = at + length (spell x); rest = more ++ rest }) ≡ all
    → (read (record { at = at; rest = (spell x ++ more) ++ rest }) >>= f) ≡ all
field_then {A} {B} read Is spell field f x at more rest all h e =
    let P : List ℕ → Type 0 = λ bytes. (read (record { at = at; rest = bytes }) >>= f) ≡ all in
    subst P (sym (append_assoc (spell x) more rest))
    (bind_at (read (before at (spell x) (more ++ rest))) f (x, after at (spell x) (more ++ rest)) all
    (field.again x at (more ++ rest) h) e)

-- the same of the last field
field_last : {A B : Type 0} (read : Place → Result (A × Place) ℕ) (Is : A → Type 0) (spell : A → List ℕ)
    → IsField read Is spell → (f : A × Place → Result B ℕ) (x : A) (at : ℕ) (rest : List ℕ) (all : Result B ℕ)
    → Is x → f (x, record { at = at + length (spell x); rest = rest }) ≡ all
    → (read (record { at = at; rest = spell x ++ rest }) >>= f) ≡ all
field_last read Is spell field f x at rest all h e =
    bind_at (read (before at (spell x) rest)) f (x, after at (spell x) rest) all (field.again x at rest h) e

fault_then : {A B : Type 0} (at : ℕ) (o : Option A) (x : A) (f : A → Result B ℕ) (all : Result B ℕ) → o ≡ Some x
    → f x ≡ all → (or_fault at o >>= f) ≡ all
fault_then {A} at o x f all is e =
    let P : Option A → Type 0 = λ o. (or_fault at o >>= f) ≡ all in
    subst P (sym is) e

table_again : (tables : List TableEntry) (earlier : List LogTable) (table : LogTable) (at : ℕ) (rest : List ℕ)
    → IsTable tables earlier table
    → table_at tables earlier (before at (table_bytes table) rest) ≡ Ok (table, after at (table_bytes table) rest)
unfolding table_at
table_again tables earlier table at rest h =
    let columns = h.columns in
    let updates = counted w32 update_bytes table.updates in
    let deletes = counted w32 id_bytes table.deletes in
    let groups = counted w32 id_bytes table.groups in
    let tail = counted w32 row_bytes table.tail in
    let at1 = at + 4 in
    let at2 = at1 + length updates in
    let at3 = at2 + length deletes in
    let at4 = at3 + length groups in
    let at5 = at4 + length tail in
    let place : at5 ≡ at + length (table_bytes table)
    = omega (
      arith,
      length-append updates (deletes ++ (groups ++ tail)),
      length-append deletes (groups ++ tail),
      length-append groups tail,
    ) in
    let ended : told at4 table.table table.updates table.deletes table.groups
    (table.tail, record { at = at5; rest = rest }) ≡ Ok (table, after at (table_bytes table) rest)
    = rw (h.some, place) refl in
    let last = field_last (counted_at w32 is_tail (tail_row_at columns)) (IsCounted w32 is_tail (IsTailRow columns))
    (counted w32 row_bytes) (tail_field columns) (told at4 table.table table.updates table.deletes table.groups) table.tail
    at4 rest _ h.tail ended in
    let third = field_then (counted_at w32 any_number root_at) (IsCounted w32 any_number IsRoot) (counted w32 id_bytes)
    groups_field (then_tail columns table.table table.updates table.deletes) table.groups at3 tail rest _ h.groups last in
    let second = field_then (deletes_at table.updates) (AreDeletes table.updates) (counted w32 id_bytes)
    (deletes_field table.updates) (then_groups columns table.table table.updates) table.deletes at2 (groups ++ tail) rest
    _ h.deletes third in
    let first = field_then (counted_at w32 any_number (update_at columns))
    (IsCounted w32 any_number (IsUpdate columns)) (counted w32 update_bytes) (updates_field columns)
    (then_deletes columns table.table) table.updates at1 (deletes ++ (groups ++ tail)) rest _ h.updates second in
    bind_at (number_at w32 (before at (table_bytes table) rest))
    (λ n. or_fault at (columns_of tables earlier n.0) >>= λ cs. then_updates n cs) _ _
    (number_again w32 wide32 table.table ((updates ++ (deletes ++ (groups ++ tail))) ++ rest) at h.fits)
    (fault_then at (columns_of tables earlier table.table) columns _ _ h.known first)

pub table_item : (tables : List TableEntry) → IsItem (table_at tables) (IsTable tables) table_bytes
table_item tables = record { takes = table_takes tables; again = table_again tables }

tables_field : (tables : List TableEntry)
    → IsField (counted_at w16 are_tables (table_at tables)) (IsCounted w16 are_tables (IsTable tables))
    (counted w16 table_bytes)
tables_field tables = counted_field w16 wide16 are_tables (table_at tables) (IsTable tables) table_bytes
    (table_item tables)

-- ---- commits

-- behind its tag, a creation
abbrev creation_bytes : List ℕ → List Column → List ℕ
creation_bytes name columns = name_bytes name ++ columns_bytes columns

-- what is read behind a tag is spelled there
record IsRead (tables : List TableEntry) (tag : ℕ) (p : Place) (x : LogCommit × Place) : Type 0 where
  lawful : IsCommit tables x.0
  text : List ℕ
  spelled : payload_bytes x.0 ≡ to_le_bytes w8 tag ++ text
  takes : Takes p x.1 text

creation_takes : (tables : List TableEntry) (p : Place) (x : LogCommit × Place) → IsBytes p.rest
    → creation_at tables p ≡ Ok x → IsRead tables 0 p x
unfolding creation_at
creation_takes tables p x fits e =
    let b = bind_ok (name_at p)
    (λ name. cond (may_create tables name.0) (Ok name) (Err p.at)
    >>= λ fresh. columns_at fresh.1 >>= λ columns. done (Create fresh.0 columns.0, columns.1)) x e in
    let name = b.0 in
    let t = name_field.takes p name fits b.1 in
    let d = bind_ok (cond (may_create tables name.0) (Ok name) (Err p.at))
    (λ fresh. columns_at fresh.1 >>= λ columns. done (Create fresh.0 columns.0, columns.1)) x b.2 in
    let g = chosen_ok (may_create tables name.0) p.at name d.0 d.1 in
    let read : (columns_at name.1 >>= λ columns. done (Create name.0 columns.0, columns.1)) ≡ Ok x
    = subst (λ (k : List ℕ × Place). (columns_at k.1 >>= λ columns. done (Create k.0 columns.0, columns.1)) ≡ Ok x)
    (sym g.1) d.2 in
    let c = bind_ok (columns_at name.1) (λ columns. done (Create name.0 columns.0, columns.1)) x read in
    let u = columns_field.takes name.1 c.0 t.takes.left c.1 in
    subst (λ (y : LogCommit × Place). IsRead tables 0 p y) (ok_is (Create name.0 c.0.0, c.0.1) x c.2)
    (record {
      lawful = record { named = t.lawful; fresh = g.0; schema = u.lawful };
      text = creation_bytes name.0 c.0.0;
      spelled = refl;
      takes = Takes-then p name.1 c.0.1 (name_bytes name.0) (columns_bytes c.0.0) t.takes u.takes;
    })

change_takes : (tables : List TableEntry) (p : Place) (x : LogCommit × Place) → IsBytes p.rest
    → change_at tables p ≡ Ok x → IsRead tables 1 p x
unfolding change_at
change_takes tables p x fits e =
    let b = bind_ok (counted_at w16 are_tables (table_at tables) p) (λ changed. done (Change changed.0, changed.1)) x e in
    let t = (tables_field tables).takes p b.0 fits b.1 in
    subst (λ (y : LogCommit × Place). IsRead tables 1 p y) (ok_is (Change b.0.0, b.0.1) x b.2)
    (record { lawful = t.lawful; text = counted w16 table_bytes b.0.0; spelled = refl; takes = t.takes })

tagged : (tables : List TableEntry) (p q : Place) (n m : ℕ) (x : LogCommit × Place) → n ≡ m
    → Takes p q (to_le_bytes w8 n) → IsRead tables m q x → IsSpelled (IsCommit tables) payload_bytes p x
tagged tables p q n m x is t r = record {
  lawful = r.lawful;
  takes = subst (λ (bytes : List ℕ). Takes p x.1 bytes) (sym r.spelled)
      (Takes-then p q x.1 (to_le_bytes w8 m) r.text
      (subst (λ (k : ℕ). Takes p q (to_le_bytes w8 k)) is t) r.takes);
}

by_tag : (b c : Bool) (r s t : Result (LogCommit × Place) ℕ) (x : LogCommit × Place) (Q : Type 0)
    → cond b r (cond c s t) ≡ Ok x → (b ≡ true → r ≡ Ok x → Q) → (c ≡ true → s ≡ Ok x → Q) → (t ≡ Ok x → Q) → Q
by_tag true c r s t x Q e one two three = one refl e
by_tag false true r s t x Q e one two three = two refl e
by_tag false false r s t x Q e one two three = three e

commit_takes : (tables : List TableEntry) (p : Place) (x : LogCommit × Place) → IsBytes p.rest
    → commit_at tables p ≡ Ok x → IsSpelled (IsCommit tables) payload_bytes p x
unfolding commit_at
commit_takes tables p x fits e =
    let b = bind_ok (number_at w8 p)
    (λ tag. cond (eqb tag.0 0) (creation_at tables tag.1) (cond (eqb tag.0 1) (change_at tables tag.1) (Err p.at))) x e in
    let tag = b.0 in
    let t = number_takes w8 wide8 p tag fits b.1 in
    by_tag (eqb tag.0 0) (eqb tag.0 1) (creation_at tables tag.1) (change_at tables tag.1) (Err p.at) x
    (IsSpelled (IsCommit tables) payload_bytes p x) b.2
    (λ is read. tagged tables p tag.1 tag.0 0 x ((Decides-eqb tag.0 0).0 is) t.0
    (creation_takes tables tag.1 x t.0.left read))
    (λ is read. tagged tables p tag.1 tag.0 1 x ((Decides-eqb tag.0 1).0 is) t.0
    (change_takes tables tag.1 x t.0.left read))
    (λ none. absurd cc)

creation_again : (tables : List TableEntry) (name : List ℕ) (columns : List Column) (at : ℕ) (rest : List ℕ)
    → IsCreation tables name columns
    → creation_at tables (before at (creation_bytes name columns) rest) ≡ Ok
    (Create name columns, after at (creation_bytes name columns) rest)
unfolding creation_at
creation_again tables name columns at rest h =
    let end = at + length (name_bytes name) + length (columns_bytes columns) in
    let place : end ≡ at + length (creation_bytes name columns)
    = omega (arith, length-append (name_bytes name) (columns_bytes columns)) in
    let last = field_last columns_at IsSchema columns_bytes columns_field
    (λ columns'. done (Create name columns'.0, columns'.1)) columns (at + length (name_bytes name)) rest _ h.schema
    (ap (λ (n : ℕ). done (Create name columns, record { at = n; rest = rest })) place) in
    field_then name_at IsName name_bytes name_field
    (λ name'. cond (may_create tables name'.0) (Ok name') (Err at)
    >>= λ fresh. columns_at fresh.1 >>= λ columns'. done (Create fresh.0 columns'.0, columns'.1)) name at
    (columns_bytes columns) rest _ h.named (rw h.fresh last)

change_again : (tables : List TableEntry) (changed : List LogTable) (at : ℕ) (rest : List ℕ)
    → IsCounted w16 are_tables (IsTable tables) changed
    → change_at tables (before at (counted w16 table_bytes changed) rest) ≡ Ok
    (Change changed, after at (counted w16 table_bytes changed) rest)
unfolding change_at
change_again tables changed at rest h =
    field_last (counted_at w16 are_tables (table_at tables)) (IsCounted w16 are_tables (IsTable tables))
    (counted w16 table_bytes) (tables_field tables) (λ changed'. done (Change changed'.0, changed'.1)) changed at rest _
    h refl

commit_again : (tables : List TableEntry) (commit : LogCommit) (at : ℕ) (rest : List ℕ) → IsCommit tables commit
    → commit_at tables (before at (payload_bytes commit) rest) ≡ Ok (commit, after at (payload_bytes commit) rest)
unfolding commit_at
commit_again tables (Create name columns) at rest h =
    let place : at + 1 + length (creation_bytes name columns) ≡ at + suc (length (creation_bytes name columns))
    = omega arith in
    rw (
      number_again w8 wide8 0 (creation_bytes name columns ++ rest) at (omega arith),
      creation_again tables name columns (at + 1) rest h,
      place,
    ) refl
commit_again tables (Change changed) at rest h =
    let place : at + 1 + length (counted w16 table_bytes changed) ≡ at + suc (length (counted w16 table_bytes changed))
    = omega arith in
    rw (
      number_again w8 wide8 1 (counted w16 table_bytes changed ++ rest) at (omega arith),
      change_again tables changed (at + 1) rest h,
      place,
    ) refl

pub commit_field : (tables : List TableEntry) → IsField (commit_at tables) (IsCommit tables) payload_bytes
commit_field tables = record { takes = commit_takes tables; again = commit_again tables }

-- ---- whole payloads

pub payload_takes : (tables : List TableEntry) (bytes : List ℕ) (commit : LogCommit) → IsBytes bytes
    → payload_read tables bytes ≡ Ok commit → IsPayload tables bytes commit
payload_takes tables bytes commit fits e =
    let w = whole_ok (commit_at tables (start bytes)) commit e in
    let t = (commit_field tables).takes (start bytes) (commit, w.behind) fits w.told in
    record {
      lawful = t.lawful;
      spelled = t.takes.passes.rest ∙ ap (λ (rest : List ℕ). payload_bytes commit ++ rest) w.used
          ∙ append-nil (payload_bytes commit);
    }

pub payload_again : (tables : List TableEntry) (bytes : List ℕ) (commit : LogCommit) → IsPayload tables bytes commit
    → payload_read tables bytes ≡ Ok commit
payload_again tables bytes commit h =
    let P : List ℕ → Type 0 = λ text. payload_read tables text ≡ Ok commit in
    let Q : List ℕ → Type 0 = λ text. commit_at tables (record { at = 0; rest = text }) ≡ Ok
    (commit, record { at = 0 + length (payload_bytes commit); rest = [] }) in
    subst P (sym h.spelled)
    (whole_at (commit_at tables (start (payload_bytes commit))) commit (0 + length (payload_bytes commit))
    (subst Q (append-nil (payload_bytes commit)) ((commit_field tables).again commit 0 [] h.lawful)))

module _ {X : Type 0} (view : X → LogCommit) (result : Result X FieldError) (tables : List TableEntry) (bytes : List ℕ)
    (gives : Gives view result (payload_read tables bytes)) where
  -- what a call answered is what the bytes stand for
  pub payload_found : IsBytes bytes → IfOk result (λ x. IsPayload tables bytes (view x))
  payload_found fits = gives_found view (λ (y : LogCommit). IsPayload tables bytes y) result (payload_read tables bytes)
      gives (λ y e. payload_takes tables bytes y fits e)

  -- what the bytes stand for was answered
  pub payload_only : (commit : LogCommit) → IsPayload tables bytes commit → Gives view result (Ok commit)
  payload_only commit h = gives_only view result (payload_read tables bytes) commit gives
      (payload_again tables bytes commit h)
