-- Names, types and columns: what is read is spelled there, and what is spelled there is read.
use Rattle.std.proofs.Common.{◌≡◌, ℕ, suc, ◌+◌, ◌^◌, ◌<◌, ◌≤◌, Bool, true, false, cond, ltb, leb, eqb, not, List, [], ◌∷◌, ◌++◌, length, Ok, Err, Option, Some, None, refl, sym, ap, subst, ◌∙◌, arith, ◌&&◌}
use Rattle.std.specs.List.{AllByRecursion, position_or_len}
use Rattle.std.specs.Int.{w8, w16, to_le_bytes}
use Rattle.std.proofs.lemmas.Bool.{ltb-true, ltb-false, leb-true, and_parts, le-ltb, lt-ltb, le-leb}
use Rattle.std.proofs.lemmas.Bool.Decides.{Decides-eqb}
use Rattle.dk_values.specs.Names.{is_name}
use Rattle.dk_values.specs.Columns.{is_among, first_no_name, repeat_from, first_repeat, name_fault, IsSchema}
use Rattle.dk_values.specs.declared.column.SchemaError.TheVariants.{NoColumns, TooManyColumns}
use Rattle.dk_values.specs.declared.column.Column.{Column}
use Rattle.dk_values.specs.declared.value.ColType.{ColType}
use Rattle.dk_values.specs.declared.value.ColType.TheVariants as types
use Rattle.dk_bytes.specs.Fields.{IsBytes, Place, bytes_at, number_at}
use Rattle.dk_bytes.specs.Reading.{◌>>=◌, or_fault, list_at, AllFollow}
use Rattle.dk_bytes.specs.ColumnFields.{IsName, name_bytes, name_at, IsType, type_byte, type_bytes, type_of, type_at, IsColumn, column_bytes, each_column, columns_bytes, column_at, is_column_count, columns_at}
use Rattle.dk_bytes.proofs.NumberLemmas.{Takes, Takes-then, bind_ok, chosen_ok, guard_ok, fault_none, wide8, wide16, bytes_takes, bytes_again, number_takes, number_again, done, ok_is}
use Rattle.dk_bytes.proofs.PlainValueLemmas.{after}
use Rattle.dk_bytes.proofs.SpellLemmas.{before, IsSpelled, IsField, list_takes, list_again, list_within}
use Rattle.dk_bytes.proofs.FaultPlaceLemmas.{Within, Inside, end_of, bind_bounded, chosen_bounded, guard_bounded, fault_bounded, number_within, bytes_within}

-- ---- names

pub name_takes : (p : Place) (x : List ℕ × Place) → IsBytes p.rest → name_at p ≡ Ok x → IsSpelled IsName name_bytes p x
unfolding name_at
name_takes p x fits e =
    let b = bind_ok (number_at w8 p)
    (λ n. cond (ltb 0 n.0 && leb n.0 63) (Ok n) (Err p.at) >>= λ len. bytes_at len.0 len.1) x e in
    let n = b.0 in
    let t = number_takes w8 wide8 p n fits b.1 in
    let d = bind_ok (cond (ltb 0 n.0 && leb n.0 63) (Ok n) (Err p.at)) (λ len. bytes_at len.0 len.1) x b.2 in
    let g = chosen_ok (ltb 0 n.0 && leb n.0 63) p.at n d.0 d.1 in
    let read : bytes_at n.0 n.1 ≡ Ok x = subst (λ (k : ℕ × Place). bytes_at k.0 k.1 ≡ Ok x) (sym g.1) d.2 in
    let u = bytes_takes n.0 n.1 x t.0.left read in
    record {
      lawful = subst (λ (k : ℕ). (ltb 0 k && leb k 63) ≡ true) (sym u.1) g.0;
      takes = Takes-then p n.1 x.1 (to_le_bytes w8 (length x.0)) x.0
          (subst (λ (k : ℕ). Takes p n.1 (to_le_bytes w8 k)) (sym u.1) t.0) u.0;
    }

name_small : (name : List ℕ) → IsName name → length name < 2 ^ 8
name_small name h =
    let few : length name ≤ 63 = leb-true (length name) 63
    (and_parts (ltb 0 (length name)) (leb (length name) 63) h).1 in
    omega arith

pub name_again : (name : List ℕ) (at : ℕ) (rest : List ℕ) → IsName name
    → name_at (before at (name_bytes name) rest) ≡ Ok (name, after at (name_bytes name) rest)
unfolding name_at
name_again name at rest h =
    let place : at + 1 + length name ≡ at + length (name_bytes name) = omega arith in
    rw (
      number_again w8 wide8 (length name) (name ++ rest) at (name_small name h),
      h,
      bytes_again name rest
          (at + 1),
      place,
    ) refl

pub name_field : IsField name_at IsName name_bytes
name_field = record { takes = name_takes; again = name_again }

pub name_within : (end : ℕ) (p : Place) → end_of p ≤ end → Within end (name_at p)
unfolding name_at
name_within end p h =
    bind_bounded end (Inside end) (Inside end) (number_at w8 p) _ (number_within end w8 p h)
    (λ n k. bind_bounded end (Inside end) (Inside end) (cond (ltb 0 n.0 && leb n.0 63) (Ok n) (Err p.at)) _
    (chosen_bounded end (Inside {A = ℕ} end) (ltb 0 n.0 && leb n.0 63) (Ok n) p.at k (omega arith))
    (λ len l. bytes_within end len.0 len.1 l))

-- ---- types

picked : (b : Bool) (n m : ℕ) (named : ColType) (other : Option ColType) (kind : ColType) → (b ≡ true → n ≡ m)
    → type_byte named ≡ m → (other ≡ Some kind → n ≡ type_byte kind) → cond b (Some named) other ≡ Some kind
    → n ≡ type_byte kind
picked true n m named other kind d h k e = let same : named ≡ kind = cc in d refl ∙ sym h ∙ ap
    (λ (t : ColType). type_byte t) same
picked false n m named other kind d h k e = k e

named_type : (n : ℕ) (kind : ColType) → type_of n ≡ Some kind → n ≡ type_byte kind
named_type n kind e =
    picked (eqb n 0) n 0 types.Bool _ kind (Decides-eqb n 0).0 refl
    (picked (eqb n 1) n 1 types.Int _ kind (Decides-eqb n 1).0 refl
    (picked (eqb n 2) n 2 types.Big _ kind (Decides-eqb n 2).0 refl
    (picked (eqb n 3) n 3 types.Text None kind (Decides-eqb n 3).0 refl (λ none. absurd cc)))) e

pub type_takes : (p : Place) (x : ColType × Place) → IsBytes p.rest → type_at p ≡ Ok x → IsSpelled IsType type_bytes p x
unfolding type_at
type_takes p x fits e =
    let b : (n : ℕ × Place) × (number_at w8 p ≡ Ok n) ×
    ((or_fault p.at (type_of n.0) >>= λ kind. done (kind, n.1)) ≡ Ok x)
    = bind_ok (number_at w8 p) (λ n. or_fault p.at (type_of n.0) >>= λ kind. done (kind, n.1)) x e in
    let n = b.0 in
    let t = number_takes w8 wide8 p n fits b.1 in
    let d = bind_ok (or_fault p.at (type_of n.0)) (λ kind. done (kind, n.1)) x b.2 in
    let byte : n.0 ≡ type_byte d.0 = named_type n.0 d.0 (fault_none p.at (type_of n.0) d.0 d.1) in
    subst (λ (y : ColType × Place). IsSpelled IsType type_bytes p y) (ok_is (d.0, n.1) x d.2)
    (record { lawful = tt; takes = subst (λ (k : ℕ). Takes p n.1 (to_le_bytes w8 k)) byte t.0 })

pub type_again : (kind : ColType) (at : ℕ) (rest : List ℕ)
    → type_at (before at (type_bytes kind) rest) ≡ Ok (kind, after at (type_bytes kind) rest)
unfolding type_at
type_again types.Bool at rest = rw (number_again w8 wide8 0 rest at (omega arith)) refl
type_again types.Int at rest = rw (number_again w8 wide8 1 rest at (omega arith)) refl
type_again types.Big at rest = rw (number_again w8 wide8 2 rest at (omega arith)) refl
type_again types.Text at rest = rw (number_again w8 wide8 3 rest at (omega arith)) refl

pub type_field : IsField type_at IsType type_bytes
type_field = record { takes = type_takes; again = λ kind at rest _. type_again kind at rest }

pub type_within : (end : ℕ) (p : Place) → end_of p ≤ end → Within end (type_at p)
unfolding type_at
type_within end p h =
    bind_bounded end (Inside end) (Inside end) (number_at w8 p) _ (number_within end w8 p h)
    (λ n k. bind_bounded end (λ (_ : ColType). Unit {0}) (Inside end) (or_fault p.at (type_of n.0)) _
    (fault_bounded end p.at (type_of n.0) (omega arith))
    (λ kind l. k))

-- ---- columns

-- a column that may stand behind these
pub record IsNew (earlier : List Column) (column : Column) : Type 0 where
  pub name : IsName column.name
  pub fresh : is_among earlier column.name ≡ false

pub column_takes : (earlier : List Column) (p : Place) (x : Column × Place) → IsBytes p.rest
    → column_at earlier p ≡ Ok x → IsSpelled (IsNew earlier) column_bytes p x
unfolding column_at
column_takes earlier p x fits e =
    let b = bind_ok (type_at p)
    (λ kind. name_at kind.1 >>= λ name. cond (is_among earlier name.0) (Err kind.1.at)
    (Ok (record { name = name.0; kind = kind.0 }, name.1))) x e in
    let kind = b.0 in
    let t = type_takes p kind fits b.1 in
    let d = bind_ok (name_at kind.1)
    (λ name. cond (is_among earlier name.0) (Err kind.1.at)
    (Ok (record { name = name.0; kind = kind.0 }, name.1))) x b.2 in
    let name = d.0 in
    let u = name_takes kind.1 name t.takes.left d.1 in
    let g = guard_ok (is_among earlier name.0) kind.1.at (record { name = name.0; kind = kind.0 }, name.1) x d.2 in
    subst (λ (y : Column × Place). IsSpelled (IsNew earlier) column_bytes p y) g.1
    (record {
      lawful = record { name = u.lawful; fresh = g.0 };
      takes = Takes-then p kind.1 name.1 (type_bytes kind.0) (name_bytes name.0) t.takes u.takes;
    })

pub column_again : (earlier : List Column) (column : Column) (at : ℕ) (rest : List ℕ) → IsNew earlier column
    → column_at earlier (before at (column_bytes column) rest) ≡ Ok (column, after at (column_bytes column) rest)
unfolding column_at
column_again earlier column at rest h =
    let place : at + 1 + length (name_bytes column.name) ≡ at + length (column_bytes column) = omega arith in
    rw (
      type_again column.kind at (name_bytes column.name ++ rest),
      name_again column.name
          (at + 1) rest h.name,
      h.fresh,
      place,
    ) refl

pub column_within : (end : ℕ) (earlier : List Column) (p : Place) → end_of p ≤ end → Within end (column_at earlier p)
unfolding column_at
column_within end earlier p h =
    bind_bounded end (Inside end) (Inside end) (type_at p) _ (type_within end p h)
    (λ kind k. bind_bounded end (Inside end) (Inside end) (name_at kind.1) _ (name_within end kind.1 k)
    (λ name l. guard_bounded end (Inside {A = Column} end) (is_among earlier name.0)
    (Ok (record { name = name.0; kind = kind.0 }, name.1)) kind.1.at l (omega arith)))

-- ---- which columns are a schema

none_else : {A : Type 0} (b : Bool) (x : A) (o : Option A) → cond b (Some x) o ≡ None → (b ≡ false) × (o ≡ None)
none_else true x o e = absurd cc
none_else false x o e = (refl, e)

passed_none : {A : Type 0} (b : Bool) (x : A) (o : Option A) → b ≡ false → o ≡ None → cond b (Some x) o ≡ None
passed_none true x o b e = absurd cc
passed_none false x o b e = e

not_true : (b : Bool) → (b ≡ true → ⊥) → b ≡ false
not_true true k = absurd (k refl)
not_true false k = refl

faults_none : (a b : Option ℕ) → name_fault a b ≡ None → (a ≡ None) × (b ≡ None)
faults_none (Some n) b e = absurd cc
faults_none None (Some n) e = absurd cc
faults_none None None e = (refl, refl)

no_faults : (a b : Option ℕ) → a ≡ None → b ≡ None → name_fault a b ≡ None
no_faults (Some n) b e f = absurd cc
no_faults None (Some n) e f = absurd cc
no_faults None None e f = refl

named_step : (b : Bool) (n m : ℕ) → suc n ≤ cond (not (not b)) (1 + m) 0 → (b ≡ true) × (n ≤ m)
named_step true n m h = (refl, omega arith)
named_step false n m h = absurd (omega arith)

-- where no column has no name, each has one
each_named : (columns : List Column)
    → length columns ≤ position_or_len (λ column. not (is_name column.name)) columns → AllByRecursion IsColumn columns
each_named [] h = tt
each_named (column ∷ columns) h =
    let s = named_step (is_name column.name) (length columns)
    (position_or_len (λ column. not (is_name column.name)) columns) h in
    (s.0, each_named columns s.1)

none_unnamed : (columns : List Column) → AllByRecursion IsColumn columns
    → length columns ≤ position_or_len (λ column. not (is_name column.name)) columns
none_unnamed [] h = omega arith
none_unnamed (column ∷ columns) h =
    let others = none_unnamed columns h.1 in
    let Q : Bool → Type 0 = λ t. suc (length columns) ≤ cond (not (not t))
    (1 + position_or_len (λ column. not (is_name column.name)) columns) 0 in
    let here : Q true = omega arith in
    subst Q (sym h.0) here

follow : (i : ℕ) (earlier columns : List Column) → AllByRecursion IsColumn columns
    → repeat_from i earlier columns ≡ None → AllFollow IsNew earlier columns
follow i earlier [] names e = tt
follow i earlier (column ∷ columns) names e =
    let g = none_else (is_among earlier column.name) i (repeat_from (i + 1) (earlier ++ column ∷ []) columns) e in
    (record { name = names.0; fresh = g.0 }, follow (i + 1) (earlier ++ column ∷ []) columns names.1 g.1)

follow_named : (earlier columns : List Column) → AllFollow IsNew earlier columns → AllByRecursion IsColumn columns
follow_named earlier [] h = tt
follow_named earlier (column ∷ columns) h = (h.0.name, follow_named (earlier ++ column ∷ []) columns h.1)

none_repeated : (i : ℕ) (earlier columns : List Column) → AllFollow IsNew earlier columns
    → repeat_from i earlier columns ≡ None
none_repeated i earlier [] h = refl
none_repeated i earlier (column ∷ columns) h =
    passed_none (is_among earlier column.name) i (repeat_from (i + 1) (earlier ++ column ∷ []) columns) h.0.fresh
    (none_repeated (i + 1) (earlier ++ column ∷ []) columns h.1)

-- the columns of a schema are neither none nor too many, and each is new behind those before it
pub record AreNew (columns : List Column) : Type 0 where
  pub count : is_column_count (length columns) ≡ true
  pub follow : AllFollow IsNew [] columns

pub schema_parts : (columns : List Column) → IsSchema columns → AreNew columns
schema_parts columns h =
    let a = none_else (eqb (length columns) 0) NoColumns _ h in
    let b = none_else (ltb 64 (length columns)) (TooManyColumns (length columns)) _ a.1 in
    let c = faults_none (first_no_name columns) (first_repeat columns) b.1 in
    let d = none_else (ltb (position_or_len (λ column. not (is_name column.name)) columns) (length columns))
    (position_or_len (λ column. not (is_name column.name)) columns) None c.0 in
    let some : ltb 0 (length columns) ≡ true = lt-ltb 0 (length columns) (not_none columns a.0) in
    let few : leb (length columns) 64 ≡ true = le-leb (length columns) 64 (ltb-false 64 (length columns) b.0) in
    record {
      count = both (ltb 0 (length columns)) (leb (length columns) 64) some few;
      follow = follow 0 [] columns (each_named columns (ltb-false _ _ d.0)) c.1;
    }
  where
    not_none : (cs : List Column) → eqb (length cs) 0 ≡ false → 0 < length cs
    not_none [] e = absurd cc
    not_none (x ∷ cs) e = omega arith

    both : (b c : Bool) → b ≡ true → c ≡ true → (b && c) ≡ true
    both true true e f = refl
    both true false e f = absurd cc
    both false c e f = absurd cc

pub schema_from : (columns : List Column) → AreNew columns → IsSchema columns
schema_from columns h =
    let parts = and_parts (ltb 0 (length columns)) (leb (length columns) 64) h.count in
    let some : 0 < length columns = ltb-true 0 (length columns) parts.0 in
    let few : length columns ≤ 64 = leb-true (length columns) 64 parts.1 in
    let names = none_unnamed columns (follow_named [] columns h.follow) in
    let unnamed : first_no_name columns ≡ None = passed_none
    (ltb (position_or_len (λ column. not (is_name column.name)) columns) (length columns))
    (position_or_len (λ column. not (is_name column.name)) columns) None (le-ltb _ _ names) refl in
    passed_none (eqb (length columns) 0) NoColumns _ (is_some columns some)
    (passed_none (ltb 64 (length columns)) (TooManyColumns (length columns)) _ (le-ltb 64 (length columns) few)
    (no_faults (first_no_name columns) (first_repeat columns) unnamed (none_repeated 0 [] columns h.follow)))
  where
    is_some : (cs : List Column) → 0 < length cs → eqb (length cs) 0 ≡ false
    is_some cs h = not_true (eqb (length cs) 0) (λ e. let none = (Decides-eqb (length cs) 0).0 e in omega arith)

pub schema_named : (columns : List Column) → IsSchema columns → AllByRecursion IsColumn columns
schema_named columns h = follow_named [] columns (schema_parts columns h).follow

-- ---- lists of columns

pub columns_takes : (p : Place) (x : List Column × Place) → IsBytes p.rest → columns_at p ≡ Ok x
    → IsSpelled IsSchema columns_bytes p x
unfolding columns_at
columns_takes p x fits e =
    let b = bind_ok (number_at w16 p)
    (λ n. cond (is_column_count n.0) (Ok n) (Err p.at) >>= λ count. list_at column_at count.0 [] count.1) x e in
    let n = b.0 in
    let t = number_takes w16 wide16 p n fits b.1 in
    let d = bind_ok (cond (is_column_count n.0) (Ok n) (Err p.at))
    (λ count. list_at column_at count.0 [] count.1) x b.2 in
    let g = chosen_ok (is_column_count n.0) p.at n d.0 d.1 in
    let read : list_at column_at n.0 [] n.1 ≡ Ok x = subst (λ (k : ℕ × Place). list_at column_at k.0 [] k.1 ≡ Ok x)
    (sym g.1) d.2 in
    let u = list_takes column_at IsNew column_bytes column_takes n.0 [] n.1 x t.0.left read in
    let len : length x.0 ≡ n.0 = ap (λ (l : List Column). length l) u.all ∙ u.count in
    let new : AllFollow IsNew [] x.0 = subst (λ (l : List Column). AllFollow IsNew [] l) (sym u.all) u.follow in
    record {
      lawful = schema_from x.0
          (record { count = subst (λ (k : ℕ). is_column_count k ≡ true) (sym len) g.0; follow = new });
      takes = Takes-then p n.1 x.1 (to_le_bytes w16 (length x.0)) (each_column x.0)
          (subst (λ (k : ℕ). Takes p n.1 (to_le_bytes w16 k)) (sym len) t.0)
          (subst (λ (l : List Column). Takes n.1 x.1 (each_column l)) (sym u.all) u.takes);
    }

pub columns_again : (columns : List Column) (at : ℕ) (rest : List ℕ) → IsSchema columns
    → columns_at (before at (columns_bytes columns) rest) ≡ Ok (columns, after at (columns_bytes columns) rest)
unfolding columns_at
columns_again columns at rest h =
    let parts = schema_parts columns h in
    let few : length columns ≤ 64 = leb-true (length columns) 64
    (and_parts (ltb 0 (length columns)) (leb (length columns) 64) parts.count).1 in
    let place : at + 2 + length (each_column columns) ≡ at + length (columns_bytes columns) = omega arith in
    rw (
      number_again w16 wide16 (length columns) (each_column columns ++ rest) at
          (omega arith),
      parts.count,
      list_again column_at IsNew column_bytes column_again columns []
          (at + 2) rest parts.follow,
      place,
    ) refl

pub columns_field : IsField columns_at IsSchema columns_bytes
columns_field = record { takes = columns_takes; again = columns_again }

-- columns that were read are a schema
pub columns_lawful : (p : Place) (columns : List Column) (q : Place) → IsBytes p.rest
    → columns_at p ≡ Ok (columns, q) → IsSchema columns
columns_lawful p columns q bytes e = (columns_takes p (columns, q) bytes e).lawful

pub columns_within : (end : ℕ) (p : Place) → end_of p ≤ end → Within end (columns_at p)
unfolding columns_at
columns_within end p h =
    bind_bounded end (Inside end) (Inside end) (number_at w16 p) _ (number_within end w16 p h)
    (λ n k. bind_bounded end (Inside end) (Inside end) (cond (is_column_count n.0) (Ok n) (Err p.at)) _
    (chosen_bounded end (Inside {A = ℕ} end) (is_column_count n.0) (Ok n) p.at k (omega arith))
    (λ count l. list_within column_at column_within end count.0 [] count.1 l))
