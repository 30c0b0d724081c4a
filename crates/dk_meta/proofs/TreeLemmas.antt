-- Trees: what is read is spelled there, and what is spelled there is read.
use Rattle.std.proofs.Common.{◌≡◌, ℕ, ◌+◌, ◌^◌, ◌<◌, ◌≤◌, true, cond, List, [], ◌∷◌, ◌++◌, length, Ok, Err, refl, sym, ap, subst, ◌∙◌, append_assoc, arith}
use Rattle.std.specs.List.{flat_map, AllByRecursion}
use Rattle.std.specs.Int.{w16, w32, w64, to_le_bytes}
use Rattle.std.proofs.lemmas.Bool.{leb-true}
use Rattle.dk_values.specs.Columns.{IsSchema}
use Rattle.dk_pages.specs.declared.page.GroupRef.{GroupRef}
use Rattle.dk_pages.specs.declared.tree.TableEntry.{TableEntry}
use Rattle.dk_bytes.specs.Fields.{IsBytes, Place, number_at}
use Rattle.dk_bytes.specs.Reading.{◌>>=◌, list_at, AllFollow}
use Rattle.dk_bytes.specs.ColumnFields.{name_bytes, name_at, columns_bytes, columns_at}
use Rattle.dk_bytes.proofs.NumberLemmas.{Takes, Takes-then, bind_ok, guard_ok, wide16, wide32, wide64, number_again, ok_is, done}
use Rattle.dk_bytes.proofs.PlainValueLemmas.{after}
use Rattle.dk_bytes.proofs.SpellLemmas.{before, IsSpelled, IsField, list_takes, list_again}
use Rattle.dk_bytes.proofs.ColumnLemmas.{name_field, columns_field}
use Rattle.dk_meta.specs.Strings.{checked_at, always}
use Rattle.dk_meta.specs.Tree.{IsGroupRef, group_ref_bytes, group_at, AreGroups, groups_bytes, groups_at, is_taken, IsNewName, HasName, IsNewEntry, entry_bytes, new_name_at, entry_at, is_table_count, IsTree, tree_bytes, tree_at}
use Rattle.dk_meta.proofs.StringLemmas.{IsChecked, checked_takes, number_spelled, first_step, behind_three, each_takes, each_again}

-- ---- the groups of a table

group_takes : (p : Place) (x : GroupRef × Place) → IsBytes p.rest → group_at p ≡ Ok x
    → IsSpelled IsGroupRef group_ref_bytes p x
unfolding group_at
group_takes p x fits e =
    let a = first_step (number_at w64) (λ n. n < 2 ^ 64) (to_le_bytes w64) (number_spelled w64 wide64) p
    (λ root. number_at w32 root.1 >>= λ rows. Ok (record { root = root.0; rows = rows.0 }, rows.1)) x fits e in
    let root = a.first in
    let b = first_step (number_at w32) (λ n. n < 2 ^ 32) (to_le_bytes w32) (number_spelled w32 wide32) root.1
    (λ rows. Ok (record { root = root.0; rows = rows.0 }, rows.1)) x a.spelled.takes.left a.onward in
    let rows = b.first in
    subst (λ (y : GroupRef × Place). IsSpelled IsGroupRef group_ref_bytes p y)
    (ok_is (record { root = root.0; rows = rows.0 }, rows.1) x b.onward)
    (record {
      lawful = record { root = a.spelled.lawful; rows = b.spelled.lawful };
      takes = Takes-then p root.1 rows.1 (to_le_bytes w64 root.0) (to_le_bytes w32 rows.0) a.spelled.takes
          b.spelled.takes;
    })

group_again : (group : GroupRef) (at : ℕ) (rest : List ℕ) → IsGroupRef group
    → group_at (before at (group_ref_bytes group) rest) ≡ Ok (group, after at (group_ref_bytes group) rest)
unfolding group_at
group_again group at rest h =
    let place : at + 8 + 4 ≡ at + length (group_ref_bytes group) = omega arith in
    rw (
      number_again w64 wide64 group.root (to_le_bytes w32 group.rows ++ rest) at h.root,
      number_again w32 wide32 group.rows rest (at + 8) h.rows,
    ) (ap (λ (n : ℕ). done (group, record { at = n; rest = rest })) place)

pub group_field : IsField group_at IsGroupRef group_ref_bytes
group_field = record { takes = group_takes; again = group_again }

groups_takes : (p : Place) (x : List GroupRef × Place) → IsBytes p.rest → groups_at p ≡ Ok x
    → IsSpelled AreGroups groups_bytes p x
unfolding groups_at
groups_takes p x fits e =
    let a = first_step (number_at w64) (λ n. n < 2 ^ 64) (to_le_bytes w64) (number_spelled w64 wide64) p
    (λ count. list_at (always group_at) count.0 [] count.1) x fits e in
    let u = each_takes group_at IsGroupRef group_ref_bytes group_field a.first.0 a.first.1 x a.spelled.takes.left
    a.onward in
    record {
      lawful = record { count = subst (λ (k : ℕ). k < 2 ^ 64) (sym u.count) a.spelled.lawful; each = u.each };
      takes = Takes-then p a.first.1 x.1 (to_le_bytes w64 (length x.0)) (flat_map group_ref_bytes x.0)
          (subst (λ (k : ℕ). Takes p a.first.1 (to_le_bytes w64 k)) (sym u.count) a.spelled.takes) u.takes;
    }

groups_again : (groups : List GroupRef) (at : ℕ) (rest : List ℕ) → AreGroups groups
    → groups_at (before at (groups_bytes groups) rest) ≡ Ok (groups, after at (groups_bytes groups) rest)
unfolding groups_at
groups_again groups at rest h =
    let place : at + 8 + length (flat_map group_ref_bytes groups) ≡ at + length (groups_bytes groups) = omega arith in
    rw (
      number_again w64 wide64 (length groups) (flat_map group_ref_bytes groups ++ rest) at h.count,
      each_again group_at IsGroupRef group_ref_bytes group_field groups (at + 8) rest h.each,
    ) (ap (λ (n : ℕ). done (groups, record { at = n; rest = rest })) place)

-- ---- a table

new_name_takes : (earlier : List TableEntry) (p : Place) (x : List ℕ × Place) → IsBytes p.rest
    → new_name_at earlier p ≡ Ok x → IsSpelled (IsNewName earlier) name_bytes p x
unfolding new_name_at
new_name_takes earlier p x fits e =
    let b = bind_ok (name_at p) (λ name. cond (is_taken earlier name.0) (Err p.at) (Ok name)) x e in
    let t = name_field.takes p b.0 fits b.1 in
    let g = guard_ok (is_taken earlier b.0.0) p.at b.0 x b.2 in
    subst (λ (y : List ℕ × Place). IsSpelled (IsNewName earlier) name_bytes p y) g.1
    (record { lawful = record { named = t.lawful; fresh = g.0 }; takes = t.takes })

new_name_again : (earlier : List TableEntry) (name : List ℕ) (at : ℕ) (rest : List ℕ) → IsNewName earlier name
    → new_name_at earlier (before at (name_bytes name) rest) ≡ Ok (name, after at (name_bytes name) rest)
unfolding new_name_at
new_name_again earlier name at rest h = rw (name_field.again name at rest h.named, h.fresh) refl

entry_takes : (earlier : List TableEntry) (p : Place) (x : TableEntry × Place) → IsBytes p.rest
    → entry_at earlier p ≡ Ok x → IsSpelled (IsNewEntry earlier) entry_bytes p x
unfolding entry_at
entry_takes earlier p x fits e =
    let a = first_step (new_name_at earlier) (IsNewName earlier) name_bytes (new_name_takes earlier) p
    (λ name. columns_at name.1 >>= λ schema. groups_at schema.1
    >>= λ groups. Ok (record { name = name.0; schema = schema.0; groups = groups.0 }, groups.1)) x fits e in
    let name = a.first in
    let b = first_step columns_at IsSchema columns_bytes columns_field.takes name.1
    (λ schema. groups_at schema.1
    >>= λ groups. Ok (record { name = name.0; schema = schema.0; groups = groups.0 }, groups.1)) x
    a.spelled.takes.left a.onward in
    let schema = b.first in
    let c = first_step groups_at AreGroups groups_bytes groups_takes schema.1
    (λ groups. Ok (record { name = name.0; schema = schema.0; groups = groups.0 }, groups.1)) x
    b.spelled.takes.left b.onward in
    let groups = c.first in
    subst (λ (y : TableEntry × Place). IsSpelled (IsNewEntry earlier) entry_bytes p y)
    (ok_is (record { name = name.0; schema = schema.0; groups = groups.0 }, groups.1) x c.onward)
    (record {
      lawful = record { name = a.spelled.lawful; schema = b.spelled.lawful; groups = c.spelled.lawful };
      takes = Takes-then p name.1 groups.1 (name_bytes name.0) (columns_bytes schema.0 ++ groups_bytes groups.0)
          a.spelled.takes
          (Takes-then name.1 schema.1 groups.1 (columns_bytes schema.0) (groups_bytes groups.0) b.spelled.takes
          c.spelled.takes);
    })

entry_again : (earlier : List TableEntry) (entry : TableEntry) (at : ℕ) (rest : List ℕ) → IsNewEntry earlier entry
    → entry_at earlier (before at (entry_bytes entry) rest) ≡ Ok (entry, after at (entry_bytes entry) rest)
unfolding entry_at
entry_again earlier entry at rest h =
    let name = name_bytes entry.name in
    let schema = columns_bytes entry.schema in
    let groups = groups_bytes entry.groups in
    let regrouped : (name ++ (schema ++ groups)) ++ rest ≡ name ++ (schema ++ (groups ++ rest)) =
    append_assoc name (schema ++ groups) rest ∙ ap (λ (l : List ℕ). name ++ l) (append_assoc schema groups rest) in
    ap (λ (l : List ℕ). entry_at earlier (record { at = at; rest = l })) regrouped
    ∙ rw (
      new_name_again earlier entry.name at (schema ++ (groups ++ rest)) h.name,
      columns_field.again entry.schema (at + length name) (groups ++ rest) h.schema,
      groups_again entry.groups (at + length name + length schema) rest h.groups,
    ) (ap (λ (n : ℕ). done (entry, record { at = n; rest = rest })) (behind_three at name schema groups))

-- ---- the tree

tree_takes : (p : Place) (x : List TableEntry × Place) → IsBytes p.rest → tree_at p ≡ Ok x
    → IsSpelled IsTree tree_bytes p x
unfolding tree_at
tree_takes p x fits e =
    let a = first_step (checked_at w16 is_table_count) (IsChecked w16 is_table_count) (to_le_bytes w16)
    (checked_takes w16 wide16 is_table_count) p (λ count. list_at entry_at count.0 [] count.1) x fits e in
    let u = list_takes entry_at IsNewEntry entry_bytes entry_takes a.first.0 [] a.first.1 x a.spelled.takes.left
    a.onward in
    let len : length x.0 ≡ a.first.0 = ap (λ (l : List TableEntry). length l) u.all ∙ u.count in
    record {
      lawful = record {
        count = subst (λ (k : ℕ). is_table_count k ≡ true) (sym len) a.spelled.lawful.passes;
        each = subst (λ (l : List TableEntry). AllFollow IsNewEntry [] l) (sym u.all) u.follow;
      };
      takes = Takes-then p a.first.1 x.1 (to_le_bytes w16 (length x.0)) (flat_map entry_bytes x.0)
          (subst (λ (k : ℕ). Takes p a.first.1 (to_le_bytes w16 k)) (sym len) a.spelled.takes)
          (subst (λ (l : List TableEntry). Takes a.first.1 x.1 (flat_map entry_bytes l)) (sym u.all) u.takes);
    }

-- a tree has few tables
pub few_tables : (tables : List TableEntry) → IsTree tables → length tables ≤ 64
few_tables tables h = leb-true (length tables) 64 h.count

tree_again : (tables : List TableEntry) (at : ℕ) (rest : List ℕ) → IsTree tables
    → tree_at (before at (tree_bytes tables) rest) ≡ Ok (tables, after at (tree_bytes tables) rest)
unfolding tree_at
tree_again tables at rest h =
    let few : length tables ≤ 64 = few_tables tables h in
    let place : at + 2 + length (flat_map entry_bytes tables) ≡ at + length (tree_bytes tables) = omega arith in
    rw (
      number_again w16 wide16 (length tables) (flat_map entry_bytes tables ++ rest) at (omega arith),
      h.count,
      list_again entry_at IsNewEntry entry_bytes entry_again tables [] (at + 2) rest h.each,
    ) (ap (λ (n : ℕ). done (tables, record { at = n; rest = rest })) place)

pub tree_field : IsField tree_at IsTree tree_bytes
tree_field = record { takes = tree_takes; again = tree_again }

-- each table has a name
pub entries_named : (earlier entries : List TableEntry) → AllFollow IsNewEntry earlier entries
    → AllByRecursion HasName entries
entries_named earlier [] h = tt
entries_named earlier (entry ∷ entries) h =
    (h.0.name.named, entries_named (earlier ++ entry ∷ []) entries h.1)
