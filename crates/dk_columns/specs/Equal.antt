-- What `==` answers at masks, columns and rows that may be missing: whether they are the same.
use Rattle.std.specs.Prelude.{◌≡◌, ◌&&◌, Bool, true, false, List, Option, Some, None}
use Rattle.std.specs.Bool.{Decides, one_answer}
use Rattle.std.specs.Cmp.{IsPartialEquivalence}
use Rattle.std.proofs.Common.{refl, sym, ap, ◌∙◌}
use Rattle.std.proofs.lemmas.Slice.Eq.{slice_eq-Decides}
use lib.Pointwise.{pointwise}
use Rattle.dk_values.specs.declared.value.ColType.{ColType}
use Rattle.dk_values.specs.declared.value.ColType.TheVariants as types
use Rattle.dk_values.specs.declared.value.Value.{Value}
use Rattle.dk_values.specs.declared.value.Value.TheVariants as values
use Rattle.dk_rows.specs.Equal.{truth_eq, value_eq, row_eq, value_decides}
use Rattle.dk_columns.specs.Columns.{Column}
use Rattle.dk_columns.specs.OptionTables.{OptionTable}

abbrev pub flags_eq : List Bool → List Bool → Bool
flags_eq = pointwise truth_eq

abbrev pub kind_eq : ColType → ColType → Bool
kind_eq types.Bool types.Bool = true
kind_eq types.Int types.Int = true
kind_eq types.Big types.Big = true
kind_eq types.Text types.Text = true
kind_eq kind other = false

abbrev pub column_eq : Column → Column → Bool
column_eq c d = kind_eq c.kind d.kind && pointwise value_eq c.values d.values

-- both rows are missing, or both are there and the same
abbrev pub maybe_eq : Option (List Value) → Option (List Value) → Bool
maybe_eq None None = true
maybe_eq (Some row) (Some other) = row_eq row other
maybe_eq row other = false

abbrev pub table_eq : OptionTable → OptionTable → Bool
table_eq t u = pointwise kind_eq t.kinds u.kinds && pointwise maybe_eq t.rows u.rows

flag_decides : (a b : Bool) → Decides (truth_eq a b) (a ≡ b)
flag_decides a b =
    let h = value_decides (values.Bool a) (values.Bool b) in
    (λ e. let same : values.Bool a ≡ values.Bool b = h.0 e in cc, λ e. h.1 (ap values.Bool e))

pub flags_decide : (xs ys : List Bool) → Decides (flags_eq xs ys) (xs ≡ ys)
flags_decide xs ys = slice_eq-Decides flag_decides xs ys (flags_eq xs ys) refl

kind_decides : (k l : ColType) → Decides (kind_eq k l) (k ≡ l)
kind_decides types.Bool types.Bool = (λ e. refl, λ e. refl)
kind_decides types.Int types.Int = (λ e. refl, λ e. refl)
kind_decides types.Big types.Big = (λ e. refl, λ e. refl)
kind_decides types.Text types.Text = (λ e. refl, λ e. refl)
kind_decides k l = (λ e. absurd cc, λ e. absurd cc)

module _ {P Q : Type 0} where
  both_decide : (a b : Bool) → Decides a P → Decides b Q → Decides (a && b) (P × Q)
  both_decide true b p q = (λ e. (p.0 refl, q.0 e), λ r. q.1 r.1)
  both_decide false b p q = (λ e. absurd cc, λ r. absurd (let no : false ≡ true = p.1 r.0 in cc))

values_decide : (xs ys : List Value) → Decides (pointwise value_eq xs ys) (xs ≡ ys)
values_decide xs ys = slice_eq-Decides value_decides xs ys (pointwise value_eq xs ys) refl

abbrev column : ColType → List Value → Column
column kind all = record { kind = kind; values = all }

pub column_decides : (c d : Column) → Decides (column_eq c d) (c ≡ d)
column_decides c d =
    let both = both_decide (kind_eq c.kind d.kind) (pointwise value_eq c.values d.values) (kind_decides c.kind d.kind) (values_decide c.values d.values) in (
      λ e. ap (λ (k : ColType). column k c.values) (both.0 e).0 ∙ ap (column d.kind) (both.0 e).1,
      λ e. both.1 (ap (λ (x : Column). x.kind) e, ap (λ (x : Column). x.values) e),
    )

row_decides : (row other : List Value) → Decides (row_eq row other) (row ≡ other)
row_decides row other = slice_eq-Decides value_decides row other (row_eq row other) refl

maybe_decides : (row other : Option (List Value)) → Decides (maybe_eq row other) (row ≡ other)
maybe_decides None None = (λ e. refl, λ e. refl)
maybe_decides (Some row) (Some other) = (λ e. ap (λ (r : List Value). Some r) ((row_decides row other).0 e), λ e. (row_decides row other).1 cc)
maybe_decides row other = (λ e. absurd cc, λ e. absurd cc)

abbrev table : List ColType → List (Option (List Value)) → OptionTable
table kinds rows = record { kinds = kinds; rows = rows }

pub table_decides : (t u : OptionTable) → Decides (table_eq t u) (t ≡ u)
table_decides t u =
    let kinds : Decides (pointwise kind_eq t.kinds u.kinds) (t.kinds ≡ u.kinds) = slice_eq-Decides kind_decides t.kinds u.kinds (pointwise kind_eq t.kinds u.kinds) refl in
    let rows : Decides (pointwise maybe_eq t.rows u.rows) (t.rows ≡ u.rows) = slice_eq-Decides maybe_decides t.rows u.rows (pointwise maybe_eq t.rows u.rows) refl in
    let both = both_decide (pointwise kind_eq t.kinds u.kinds) (pointwise maybe_eq t.rows u.rows) kinds rows in (
      λ e. ap (λ (k : List ColType). table k t.rows) (both.0 e).0 ∙ ap (table u.kinds) (both.0 e).1,
      λ e. both.1 (ap (λ (x : OptionTable). x.kinds) e, ap (λ (x : OptionTable). x.rows) e),
    )

module _ {T : Type 0} (eq : T → T → Bool) (decides : (x y : T) → Decides (eq x y) (x ≡ y)) where
  decided_symm : (x y : T) → eq x y ≡ eq y x
  decided_symm x y =
      let there = decides x y in
      let back = decides y x in
      one_answer (eq x y) (eq y x) there (λ e. sym (back.0 e), λ e. back.1 (sym e))

  decided_trans : (x y z : T) → eq x y ≡ true → eq y z ≡ true → eq x z ≡ true
  decided_trans x y z e f = (decides x z).1 ((decides x y).0 e ∙ (decides y z).0 f)

  -- what tells whether two things are the same is a partial equivalence
  decided_per : IsPartialEquivalence eq
  decided_per = record { symm = decided_symm; trans = decided_trans }

pub flags_per : IsPartialEquivalence flags_eq
flags_per = decided_per flags_eq flags_decide

pub column_per : IsPartialEquivalence column_eq
column_per = decided_per column_eq column_decides

pub table_per : IsPartialEquivalence table_eq
table_per = decided_per table_eq table_decides
