-- A value, or a row, that is put in a place of columns.
use Rattle.std.proofs.Common.{◌≡◌, ◌≢◌, ℕ, zero, suc, ◌+◌, ◌<◌, ◌≤◌, List, [], ◌∷◌, ◌++◌, length, take, get_or, Some, refl, ap, sym, ◌∙◌, subst, inl, inr, arith}
use Rattle.std.specs.Prelude.{slice_get, slice_set, replicate, Result, Ok, Err, OnOk}
use Rattle.std.specs.List.{All}
use Rattle.std.proofs.lemmas.List.{get_or-take, length-take}
use Rattle.std.proofs.lemmas.List.Elements.{All-take}
use Rattle.dk_values.specs.declared.value.ColType.{ColType}
use Rattle.dk_values.specs.declared.value.ColType.TheVariants as types
use Rattle.dk_values.specs.declared.value.Value.{Value}
use Rattle.dk_values.specs.declared.value.Value.TheVariants.{Null}
use Rattle.dk_columns.specs.Columns.{Column, IsOfKind, with_value, with_set, with_front}
use Rattle.dk_columns.specs.OptionTables.{row_at, kinds_of, put_at, with_put, with_row_put, with_cell_put, IsLong, AreLong, FitsKinds, IsKindAt, IsCut, SameFront}

put_here : (i : ℕ) (v d : Value) (vs : List Value) → i ≤ length vs → get_or (put_at i v vs) i d ≡ v
put_here zero v d [] le = refl
put_here zero v d (w ∷ vs) le = refl
put_here (suc i) v d [] le = absurd (omega (arith, le))
put_here (suc i) v d (w ∷ vs) le = put_here i v d vs (omega (arith, le))

put_other : (i : ℕ) (v d : Value) (vs : List Value) (k : ℕ) → k ≢ i → i ≤ length vs → get_or (put_at i v vs) k d ≡ get_or vs k d
put_other zero v d [] zero ne le = absurd (ne refl)
put_other zero v d [] (suc k) ne le = refl
put_other zero v d (w ∷ vs) zero ne le = absurd (ne refl)
put_other zero v d (w ∷ vs) (suc k) ne le = refl
put_other (suc i) v d [] k ne le = absurd (omega (arith, le))
put_other (suc i) v d (w ∷ vs) zero ne le = refl
put_other (suc i) v d (w ∷ vs) (suc k) ne le = put_other i v d vs k (λ e. ne (ap suc e)) (omega (arith, le))

put_grows : (i : ℕ) (v : Value) (vs : List Value) → length vs ≤ length (put_at i v vs)
put_grows zero v [] = omega arith
put_grows zero v (w ∷ vs) = omega arith
put_grows (suc i) v [] = omega arith
put_grows (suc i) v (w ∷ vs) = omega (arith, put_grows i v vs)

put_reaches : (i : ℕ) (v : Value) (vs : List Value) → i ≤ length vs → suc i ≤ length (put_at i v vs)
put_reaches zero v [] le = omega arith
put_reaches zero v (w ∷ vs) le = omega arith
put_reaches (suc i) v [] le = absurd (omega (arith, le))
put_reaches (suc i) v (w ∷ vs) le = let ih = put_reaches i v vs (omega (arith, le)) in omega (arith, ih)

put_all : (P : Value → Type 0) (i : ℕ) (v : Value) (vs : List Value) → P v → All P vs → All P (put_at i v vs)
put_all P zero v [] p h zero d lt = p
put_all P zero v [] p h (suc k) d lt = absurd (omega (arith, lt))
put_all P zero v (w ∷ vs) p h zero d lt = p
put_all P zero v (w ∷ vs) p h (suc k) d lt = h (suc k) d (omega (arith, lt))
put_all P (suc i) v [] p h zero d lt = p
put_all P (suc i) v [] p h (suc k) d lt = absurd (omega (arith, lt))
put_all P (suc i) v (w ∷ vs) p h zero d lt = h zero d (omega arith)
put_all P (suc i) v (w ∷ vs) p h (suc k) d lt =
    put_all P i v vs p (λ m e l. h (suc m) e (omega (arith, l))) k d (omega (arith, lt))

set_is_put : (i : ℕ) (v : Value) (vs : List Value) → i < length vs → slice_set vs i v ≡ put_at i v vs
set_is_put i v [] lt = absurd (omega (arith, lt))
set_is_put zero v (w ∷ vs) lt = refl
set_is_put (suc i) v (w ∷ vs) lt = ap (λ (xs : List Value). w ∷ xs) (set_is_put i v vs (omega (arith, lt)))

push_is_put : (i : ℕ) (v : Value) (vs : List Value) → i ≡ length vs → vs ++ v ∷ [] ≡ put_at i v vs
push_is_put zero v [] e = refl
push_is_put (suc i) v [] e = absurd (omega (arith, e))
push_is_put zero v (w ∷ vs) e = absurd (omega (arith, e))
push_is_put (suc i) v (w ∷ vs) e = ap (λ (xs : List Value). w ∷ xs) (push_is_put i v vs (omega (arith, e)))

abbrev column : ColType → List Value → Column
column kind values = record { kind = kind; values = values }

module _ {E : Type 0} where
  pub set_put : (r : Result (Unit {0}) E) (i : ℕ) (v : Value) (old new : Column) → OnOk r (new ≡ with_set i v old) → i < length old.values → OnOk r (new ≡ with_put i v old)
  set_put (Ok u) i v old new e lt = e ∙ ap (column old.kind) (set_is_put i v old.values lt)
  set_put (Err u) i v old new e lt = tt

  pub push_put : (r : Result (Unit {0}) E) (i : ℕ) (v : Value) (old new : Column) → OnOk r (new ≡ with_value v old) → i ≡ length old.values → OnOk r (new ≡ with_put i v old)
  push_put (Ok u) i v old new e at = e ∙ ap (column old.kind) (push_is_put i v old.values at)
  push_put (Err u) i v old new e at = tt

-- a row has a value of each column
pub row_len : (i : ℕ) (columns : List Column) → length (row_at i columns) ≡ length columns
row_len i [] = refl
row_len i (c ∷ columns) = ap suc (row_len i columns)

pub null_at : (n j : ℕ) (value : Value) → j < n → slice_get (replicate n value) j ≡ Some value
null_at zero j value lt = absurd (omega (arith, lt))
null_at (suc n) zero value lt = refl
null_at (suc n) (suc j) value lt = null_at n j value (omega (arith, lt))

null_fits : (kind : ColType) → IsOfKind kind Null
null_fits types.Bool = tt
null_fits types.Int = tt
null_fits types.Big = tt
null_fits types.Text = tt

pub nulls_fit : (columns : List Column) (n : ℕ) → n ≡ length columns → FitsKinds (kinds_of columns) (replicate n Null)
nulls_fit [] zero e = tt
nulls_fit [] (suc n) e = absurd (omega (arith, e))
nulls_fit (c ∷ columns) zero e = absurd (omega (arith, e))
nulls_fit (c ∷ columns) (suc n) e = (null_fits c.kind, nulls_fit columns n (omega (arith, e)))

pub fits_len : (columns : List Column) (row : List Value) → FitsKinds (kinds_of columns) row → length row ≡ length columns
fits_len [] [] f = refl
fits_len [] (v ∷ row) f = absurd f
fits_len (c ∷ columns) [] f = absurd f
fits_len (c ∷ columns) (v ∷ row) f = ap suc (fits_len columns row f.1)

pub fits_at : (kinds : List ColType) (row : List Value) (j : ℕ) (v : Value) → FitsKinds kinds row → slice_get row j ≡ Some v → IsKindAt j kinds v
fits_at kinds [] j v f e = absurd cc
fits_at [] (w ∷ row) j v f e = absurd f
fits_at (kind ∷ kinds) (w ∷ row) zero v f e = let same : w ≡ v = cc in subst (λ (x : Value). IsOfKind kind x) same f.0
fits_at (kind ∷ kinds) (w ∷ row) (suc j) v f e = fits_at kinds row j v f.1 e

pub long_at : (i j : ℕ) (columns : List Column) (c : Column) → AreLong i columns → j < length columns → c ≡ get_or columns j c → IsLong i c
long_at i j [] c l lt e = absurd (omega (arith, lt))
long_at i zero (x ∷ columns) c l lt e = subst (λ (k : Column). IsLong i k) (sym e) l.0
long_at i (suc j) (x ∷ columns) c l lt e = long_at i j columns c l.1 (omega (arith, lt)) e

pub kind_at : (j : ℕ) (columns : List Column) (c : Column) (v : Value) → IsKindAt j (kinds_of columns) v → j < length columns → c ≡ get_or columns j c → IsOfKind c.kind v
kind_at j [] c v h lt e = absurd (omega (arith, lt))
kind_at zero (x ∷ columns) c v h lt e = subst (λ (k : Column). IsOfKind k.kind v) (sym e) h
kind_at (suc j) (x ∷ columns) c v h lt e = kind_at j columns c v h (omega (arith, lt)) e

put_cell : (j i : ℕ) (v : Value) (columns : List Column) (c new : Column) → j < length columns → c ≡ get_or columns j c → new ≡ with_put i v c → slice_set columns j new ≡ with_cell_put j i v columns
put_cell j i v [] c new lt e put = absurd (omega (arith, lt))
put_cell zero i v (x ∷ columns) c new lt e put = ap (λ (k : Column). k ∷ columns) (put ∙ ap (with_put i v) e)
put_cell (suc j) i v (x ∷ columns) c new lt e put = ap (λ (ks : List Column). x ∷ ks) (put_cell j i v columns c new (omega (arith, lt)) e put)

pub cell_put : {E : Type 0} (r : Result (Unit {0}) E) (j i : ℕ) (v : Value) (columns : List Column) (c new : Column) → j < length columns → c ≡ get_or columns j c → OnOk r (new ≡ with_put i v c) → OnOk r (slice_set columns j new ≡ with_cell_put j i v columns)
cell_put (Ok u) j i v columns c new lt e put = put_cell j i v columns c new lt e put
cell_put (Err u) j i v columns c new lt e put = tt

pub kinds_put : (i : ℕ) (row : List Value) (columns : List Column) → kinds_of (with_row_put i row columns) ≡ kinds_of columns
kinds_put i [] columns = refl
kinds_put i (v ∷ row) [] = refl
kinds_put i (v ∷ row) (c ∷ columns) = ap (λ (ks : List ColType). c.kind ∷ ks) (kinds_put i row columns)

pub put_len : (i : ℕ) (row : List Value) (columns : List Column) → length (with_row_put i row columns) ≡ length columns
put_len i [] columns = refl
put_len i (v ∷ row) [] = refl
put_len i (v ∷ row) (c ∷ columns) = ap suc (put_len i row columns)

pub row_put_here : (i : ℕ) (row : List Value) (columns : List Column) → AreLong i columns → FitsKinds (kinds_of columns) row → row_at i (with_row_put i row columns) ≡ row
row_put_here i [] [] l f = refl
row_put_here i [] (c ∷ columns) l f = absurd f
row_put_here i (v ∷ row) [] l f = absurd f
row_put_here i (v ∷ row) (c ∷ columns) l f =
    ap (λ (x : Value). x ∷ row_at i (with_row_put i row columns)) (put_here i v Null c.values l.0.long)
    ∙ ap (λ (xs : List Value). v ∷ xs) (row_put_here i row columns l.1 f.1)

pub row_put_other : (i : ℕ) (row : List Value) (columns : List Column) (k : ℕ) → k ≢ i → AreLong i columns → row_at k (with_row_put i row columns) ≡ row_at k columns
row_put_other i [] columns k ne l = refl
row_put_other i (v ∷ row) [] k ne l = refl
row_put_other i (v ∷ row) (c ∷ columns) k ne l =
    ap (λ (x : Value). x ∷ row_at k (with_row_put i row columns)) (put_other i v Null c.values k ne l.0.long)
    ∙ ap (λ (xs : List Value). get_or c.values k Null ∷ xs) (row_put_other i row columns k ne l.1)

pub long_less : (m n : ℕ) (columns : List Column) → m ≤ n → AreLong n columns → AreLong m columns
long_less m n [] le l = tt
long_less m n (c ∷ columns) le l = (record { long = omega (arith, le, l.0.long); kinds = l.0.kinds }, long_less m n columns le l.1)

pub long_put : (m i j : ℕ) (row : List Value) (columns : List Column) → AreLong m columns → FitsKinds (kinds_of columns) row → AreLong m (with_row_put i (take j row) columns)
long_put m i zero row columns l f = l
long_put m i (suc j) [] columns l f = l
long_put m i (suc j) (v ∷ row) [] l f = tt
long_put m i (suc j) (v ∷ row) (c ∷ columns) l f = (
  record {
    long = omega (arith, l.0.long, put_grows i v c.values);
    kinds = put_all (IsOfKind c.kind) i v c.values f.0 l.0.kinds;
  },
  long_put m i j row columns l.1 f.1,
)

pub long_put_here : (i : ℕ) (row : List Value) (columns : List Column) → AreLong i columns → FitsKinds (kinds_of columns) row → AreLong (suc i) (with_row_put i row columns)
long_put_here i [] [] l f = tt
long_put_here i [] (c ∷ columns) l f = absurd f
long_put_here i (v ∷ row) [] l f = tt
long_put_here i (v ∷ row) (c ∷ columns) l f = (
  record {
    long = put_reaches i v c.values l.0.long;
    kinds = put_all (IsOfKind c.kind) i v c.values f.0 l.0.kinds;
  },
  long_put_here i row columns l.1 f.1,
)

-- the next value of a row
pub row_put_more : (j i : ℕ) (row : List Value) (columns : List Column) (v : Value) → slice_get row j ≡ Some v → with_cell_put j i v (with_row_put i (take j row) columns) ≡ with_row_put i (take (j + 1) row) columns
row_put_more j i [] columns v e = absurd cc
row_put_more zero i (x ∷ row) [] v e = refl
row_put_more zero i (x ∷ row) (c ∷ columns) v e = let same : x ≡ v = cc in ap (λ (w : Value). with_put i w c ∷ columns) (sym same)
row_put_more (suc j) i (x ∷ row) [] v e =
    let next : suc j + 1 ≡ suc (j + 1) = omega arith in
    ap (λ (n : ℕ). with_row_put i (take n (x ∷ row)) []) (sym next)
row_put_more (suc j) i (x ∷ row) (c ∷ columns) v e =
    let next : suc j + 1 ≡ suc (j + 1) = omega arith in
    ap (λ (ks : List Column). with_put i x c ∷ ks) (row_put_more j i row columns v e)
    ∙ ap (λ (n : ℕ). with_row_put i (take n (x ∷ row)) (c ∷ columns)) (sym next)

at_is : (vs : List Value) (i : ℕ) (v d : Value) → slice_get vs i ≡ Some v → get_or vs i d ≡ v
at_is [] i v d e = absurd cc
at_is (w ∷ vs) zero v d e = let same : w ≡ v = cc in same
at_is (w ∷ vs) (suc i) v d e = at_is vs i v d e

-- the value of a column is that of its row
pub row_value : (i j : ℕ) (columns : List Column) (c : Column) (v : Value) → j < length columns → c ≡ get_or columns j c → slice_get c.values i ≡ Some v → slice_get (row_at i columns) j ≡ Some v
row_value i j [] c v lt e h = absurd (omega (arith, lt))
row_value i zero (x ∷ columns) c v lt e h = ap (λ (w : Value). Some w) (ap (λ (k : Column). get_or k.values i Null) (sym e) ∙ at_is c.values i v Null h)
row_value i (suc j) (x ∷ columns) c v lt e h = row_value i j columns c v (omega (arith, lt)) e h

pub row_fits : (i : ℕ) (columns : List Column) → AreLong (suc i) columns → FitsKinds (kinds_of columns) (row_at i columns)
row_fits i [] l = tt
row_fits i (c ∷ columns) l = let long = l.0.long in (l.0.kinds i Null (omega (arith, long)), row_fits i columns l.1)

cut_long : (n : ℕ) (c new : Column) → IsLong n c → IsCut n c new → IsLong n new
cut_long n c new l (inl same) = subst (λ (k : Column). IsLong n k) (sym same) l
cut_long n c new l (inr cut) =
    let long = l.long in
    let here : IsLong n (with_front n c) = record { long = omega (arith, length-take n c.values, long); kinds = All-take (IsOfKind c.kind) n c.values l.kinds } in
    subst (λ (k : Column). IsLong n k) (sym cut) here

cut_kind : (n : ℕ) (c new : Column) → IsCut n c new → new.kind ≡ c.kind
cut_kind n c new (inl same) = ap (λ (k : Column). k.kind) same
cut_kind n c new (inr cut) = ap (λ (k : Column). k.kind) cut

cut_at : (n : ℕ) (c new : Column) (k : ℕ) → IsCut n c new → k < n → get_or new.values k Null ≡ get_or c.values k Null
cut_at n c new k (inl same) lt = ap (λ (x : Column). get_or x.values k Null) same
cut_at n c new k (inr cut) lt = ap (λ (x : Column). get_or x.values k Null) cut ∙ get_or-take n c.values k Null lt

pub front_same : (n : ℕ) (columns : List Column) → AreLong n columns → SameFront n columns columns
front_same n columns l = record { kinds = refl; long = l; rows = λ k lt. refl }

cut_one : (n j : ℕ) (columns : List Column) (c new : Column) → AreLong n columns → j < length columns → c ≡ get_or columns j c → IsCut n c new → SameFront n columns (slice_set columns j new)
cut_one n j [] c new l lt e cut = absurd (omega (arith, lt))
cut_one n zero (x ∷ columns) c new l lt e cut =
    let here : IsCut n x new = subst (λ (k : Column). IsCut n k new) e cut in
    record {
      kinds = ap (λ (k : ColType). k ∷ kinds_of columns) (cut_kind n x new here);
      long = (cut_long n x new l.0 here, l.1);
      rows = λ k less. ap (λ (v : Value). v ∷ row_at k columns) (cut_at n x new k here less);
    }
cut_one n (suc j) (x ∷ columns) c new l lt e cut =
    let rest = cut_one n j columns c new l.1 (omega (arith, lt)) e cut in
    record {
      kinds = ap (λ (ks : List ColType). x.kind ∷ ks) rest.kinds;
      long = (l.0, rest.long);
      rows = λ k less. ap (λ (vs : List Value). get_or x.values k Null ∷ vs) (rest.rows k less);
    }

pub cut_more : (n j : ℕ) (old columns : List Column) (c new : Column) → SameFront n old columns → j < length columns → c ≡ get_or columns j c → IsCut n c new → SameFront n old (slice_set columns j new)
cut_more n j old columns c new same lt e cut =
    let one = cut_one n j columns c new same.long lt e cut in
    record {
      kinds = one.kinds ∙ same.kinds;
      long = one.long;
      rows = λ k less. one.rows k less ∙ same.rows k less;
    }
