-- Cells and rows: what is read is spelled there, and what is spelled there is read.
use Rattle.std.proofs.Common.{◌≡◌, ℕ, zero, suc, ◌+◌, ◌<◌, ◌≤◌, Bool, true, false, cond, ltb, eqb, List, [], ◌∷◌, ◌++◌, length, Result, Ok, Err, refl, sym, ap, subst, ◌∙◌, append_assoc, length-append, arith}
use Rattle.std.specs.Int.{w8, to_le_bytes}
use Rattle.std.proofs.lemmas.Bool.{ltb-true}
use Rattle.dk_values.specs.declared.column.Column.{Column}
use Rattle.dk_values.specs.declared.value.ColType.{ColType}
use Rattle.dk_values.specs.declared.value.ColType.TheVariants as types
use Rattle.dk_values.specs.declared.value.Value.{Value}
use Rattle.dk_values.specs.declared.value.Value.TheVariants as values
use Rattle.dk_bytes.specs.Fields.{IsBytes, Place, number_at}
use Rattle.dk_bytes.specs.PlainValue.{IsPlain, plain_bytes, value_at}
use Rattle.dk_bytes.specs.Reading.{◌>>=◌}
use Rattle.dk_bytes.specs.RowFields.{IsCell, cell_bytes, cell_at, present_at, IsRow, row_bytes, row_at}
use Rattle.dk_bytes.proofs.FrontLemmas.{with_front, front_snoc}
use Rattle.dk_bytes.proofs.NumberLemmas.{Takes, Takes-then, bind_ok, bind_at, chosen_ok, wide8, number_takes, number_again, done, ok_is}
use Rattle.dk_bytes.proofs.PlainValueLemmas.{value_takes, value_again, after}
use Rattle.dk_bytes.proofs.SpellLemmas.{before, IsSpelled, IsField}
use Rattle.dk_bytes.proofs.FaultPlaceLemmas.{Within, Inside, end_of, bind_bounded, chosen_bounded, number_within, value_within}

-- a value of the type is no null
plain_cell : (kind : ColType) (value : Value) → IsPlain kind value
    → (cell_bytes value ≡ 1 ∷ plain_bytes value) × IsCell kind value
plain_cell types.Bool values.Null h = absurd h
plain_cell types.Int values.Null h = absurd h
plain_cell types.Big values.Null h = absurd h
plain_cell types.Text values.Null h = absurd h
plain_cell kind (values.Bool truth) h = (refl, h)
plain_cell kind (values.Int number) h = (refl, h)
plain_cell kind (values.Big number) h = (refl, h)
plain_cell kind (values.Text text) h = (refl, h)
plain_cell kind (values.Huge number) h = (refl, h)

present_takes : (kind : ColType) (p q : Place) (n : ℕ) (x : Value × Place) → n < 2 → Takes p q (to_le_bytes w8 n)
    → present_at kind (n, q) ≡ Ok x → IsSpelled (IsCell kind) cell_bytes p x
present_takes kind p q zero x lt t e =
    subst (λ (y : Value × Place). IsSpelled (IsCell kind) cell_bytes p y) (ok_is (values.Null, q) x e)
    (record { lawful = tt; takes = t })
present_takes kind p q (suc zero) x lt t e =
    let u = value_takes kind q x t.left e in
    let c = plain_cell kind x.0 u.plain in
    record {
      lawful = c.1;
      takes = subst (λ (bytes : List ℕ). Takes p x.1 bytes) (sym c.0)
          (Takes-then p q x.1 (1 ∷ []) (plain_bytes x.0) t u.takes);
    }
present_takes kind p q (suc (suc n)) x lt t e = absurd (omega arith)

pub cell_takes : (kind : ColType) (p : Place) (x : Value × Place) → IsBytes p.rest → cell_at kind p ≡ Ok x
    → IsSpelled (IsCell kind) cell_bytes p x
unfolding cell_at
cell_takes kind p x fits e =
    let b = bind_ok (number_at w8 p) (λ n. cond (ltb n.0 2) (Ok n) (Err p.at) >>= λ flag. present_at kind flag) x e in
    let n = b.0 in
    let t = number_takes w8 wide8 p n fits b.1 in
    let d = bind_ok (cond (ltb n.0 2) (Ok n) (Err p.at)) (λ flag. present_at kind flag) x b.2 in
    let g = chosen_ok (ltb n.0 2) p.at n d.0 d.1 in
    let read : present_at kind n ≡ Ok x = subst (λ (k : ℕ × Place). present_at kind k ≡ Ok x) (sym g.1) d.2 in
    present_takes kind p n.1 n.0 x (ltb-true n.0 2 g.0) t.0 read

present_again : (kind : ColType) (value : Value) (at : ℕ) (rest : List ℕ) → IsPlain kind value → cell_at kind
    (record { at = at; rest = 1 ∷ (plain_bytes value ++ rest) }) ≡ Ok
    (value, record { at = at + 1 + length (plain_bytes value); rest = rest })
unfolding cell_at
present_again kind value at rest h = rw
    (number_again w8 wide8 1 (plain_bytes value ++ rest) at (omega arith), value_again kind value rest (at + 1) h) refl

null_again : (kind : ColType) (at : ℕ) (rest : List ℕ) → cell_at kind (record { at = at; rest = 0 ∷ rest }) ≡ Ok
    (values.Null, record { at = at + 1; rest = rest })
unfolding cell_at
null_again kind at rest = rw (number_again w8 wide8 0 rest at (omega arith)) refl

valued_again : (kind : ColType) (value : Value) (at : ℕ) (rest : List ℕ) → IsPlain kind value
    → cell_at kind (before at (cell_bytes value) rest) ≡ Ok (value, after at (cell_bytes value) rest)
valued_again kind value at rest h =
    let P : List ℕ → Type 0 = λ bytes. cell_at kind (record { at = at; rest = bytes ++ rest }) ≡ Ok
    (value, record { at = at + length bytes; rest = rest }) in
    let place : at + 1 + length (plain_bytes value) ≡ at + suc (length (plain_bytes value)) = omega arith in
    subst P (sym (plain_cell kind value h).0)
    (present_again kind value at rest h ∙ ap (λ (n : ℕ). done (value, record { at = n; rest = rest })) place)

pub cell_again : (kind : ColType) (value : Value) (at : ℕ) (rest : List ℕ) → IsCell kind value
    → cell_at kind (before at (cell_bytes value) rest) ≡ Ok (value, after at (cell_bytes value) rest)
cell_again kind values.Null at rest h = null_again kind at rest
cell_again kind (values.Bool truth) at rest h = valued_again kind (values.Bool truth) at rest h
cell_again kind (values.Int number) at rest h = valued_again kind (values.Int number) at rest h
cell_again kind (values.Big number) at rest h = valued_again kind (values.Big number) at rest h
cell_again kind (values.Text text) at rest h = valued_again kind (values.Text text) at rest h
cell_again kind (values.Huge number) at rest h = valued_again kind (values.Huge number) at rest h

either_within : {A : Type 0} (end : ℕ) (b : Bool) (r s : Result (A × Place) ℕ) → Within end r → Within end s
    → Within end (cond b r s)
either_within end true r s h k = h
either_within end false r s h k = k

pub value_field : (kind : ColType) → IsField (value_at kind) (IsPlain kind) plain_bytes
value_field kind = record {
  takes = λ p x bytes e. let t = value_takes kind p x bytes e in record { lawful = t.plain; takes = t.takes };
  again = λ value at rest h. value_again kind value rest at h;
}

pub cell_field : (kind : ColType) → IsField (cell_at kind) (IsCell kind) cell_bytes
cell_field kind = record { takes = cell_takes kind; again = cell_again kind }

pub cell_within : (end : ℕ) (kind : ColType) (p : Place) → end_of p ≤ end → Within end (cell_at kind p)
unfolding cell_at
cell_within end kind p h =
    bind_bounded end (Inside end) (Inside end) (number_at w8 p) _ (number_within end w8 p h)
    (λ n k. bind_bounded end (Inside end) (Inside end) (cond (ltb n.0 2) (Ok n) (Err p.at)) _
    (chosen_bounded end (Inside {A = ℕ} end) (ltb n.0 2) (Ok n) p.at k (omega arith))
    (λ flag l. either_within end (eqb flag.0 0) (Ok (values.Null, flag.1)) (value_at kind flag.1) l
    (value_within end kind flag.1 l)))

-- ---- rows

pub row_takes : (columns : List Column) (p : Place) (x : List Value × Place) → IsBytes p.rest
    → row_at columns p ≡ Ok x → IsSpelled (IsRow columns) row_bytes p x
row_takes [] p x fits e =
    subst (λ (y : List Value × Place). IsSpelled (IsRow []) row_bytes p y) (ok_is ([], p) x e)
    (record { lawful = tt; takes = record { passes = record { rest = refl; at = omega arith }; left = fits } })
row_takes (column ∷ columns) p x fits e =
    let b = bind_ok (cell_at column.kind p)
    (λ value. row_at columns value.1 >>= λ others. done (value.0 ∷ others.0, others.1)) x e in
    let value = b.0 in
    let t = cell_takes column.kind p value fits b.1 in
    let d = bind_ok (row_at columns value.1) (λ others. done (value.0 ∷ others.0, others.1)) x b.2 in
    let others = d.0 in
    let u = row_takes columns value.1 others t.takes.left d.1 in
    subst (λ (y : List Value × Place). IsSpelled (IsRow (column ∷ columns)) row_bytes p y)
    (ok_is (value.0 ∷ others.0, others.1) x d.2)
    (record {
      lawful = (t.lawful, u.lawful);
      takes = Takes-then p value.1 others.1 (cell_bytes value.0)
          (row_bytes others.0) t.takes u.takes;
    })

pub row_again : (columns : List Column) (row : List Value) (at : ℕ) (rest : List ℕ) → IsRow columns row
    → row_at columns (before at (row_bytes row) rest) ≡ Ok (row, after at (row_bytes row) rest)
row_again [] [] at rest h = let place : at ≡ at + 0 = omega arith in ap
    (λ (n : ℕ). done ([], record { at = n; rest = rest })) place
row_again [] (value ∷ row) at rest h = absurd h
row_again (column ∷ columns) [] at rest h = absurd h
row_again (column ∷ columns) (value ∷ row) at rest h =
    let P : List ℕ → Type 0 = λ bytes. row_at (column ∷ columns) (record { at = at; rest = bytes }) ≡ Ok
    (value ∷ row, after at (cell_bytes value ++ row_bytes row) rest) in
    let one = cell_again column.kind value at (row_bytes row ++ rest) h.0 in
    let others = row_again columns row (at + length (cell_bytes value)) rest h.1 in
    let place : at + length (cell_bytes value) + length (row_bytes row) ≡ at + length
    (cell_bytes value ++ row_bytes row) = omega (arith, length-append (cell_bytes value) (row_bytes row)) in
    let next : (row_at columns (after at (cell_bytes value) (row_bytes row ++ rest)) >>= λ others. done
    (value ∷ others.0, others.1)) ≡ Ok (value ∷ row, after at (cell_bytes value ++ row_bytes row) rest)
    = bind_at (row_at columns (after at (cell_bytes value) (row_bytes row ++ rest)))
    (λ others. done (value ∷ others.0, others.1)) _ _ others
    (ap (λ (n : ℕ). done (value ∷ row, record { at = n; rest = rest })) place) in
    subst P (sym (append_assoc (cell_bytes value) (row_bytes row) rest))
    (bind_at (cell_at column.kind (before at (cell_bytes value) (row_bytes row ++ rest)))
    (λ v. row_at columns v.1 >>= λ others. done (v.0 ∷ others.0, others.1)) _ _ one next)

pub row_field : (columns : List Column) → IsField (row_at columns) (IsRow columns) row_bytes
row_field columns = record { takes = row_takes columns; again = row_again columns }

pub row_within : (end : ℕ) (columns : List Column) (p : Place) → end_of p ≤ end → Within end (row_at columns p)
row_within end [] p h = h
row_within end (column ∷ columns) p h =
    bind_bounded end (Inside end) (Inside end) (cell_at column.kind p) _ (cell_within end column.kind p h)
    (λ value k. bind_bounded end (Inside end) (Inside end) (row_at columns value.1) _ (row_within end columns value.1 k)
    (λ others l. l))

-- one more cell is read
pub one_cell : (row : List Value) (column : Column) (columns : List Column) (value : Value) (p q : Place)
    (all : Result (List Value × Place) ℕ) → cell_at column.kind p ≡ Ok (value, q)
    → with_front row (row_at (column ∷ columns) p) ≡ all → with_front (row ++ value ∷ []) (row_at columns q) ≡ all
one_cell row column columns value p q all r h =
    let read : with_front row (row_at columns q >>= λ others. Ok (value ∷ others.0, others.1)) ≡ all
    = subst (λ (s : Result (Value × Place) ℕ). with_front row
    (s >>= λ x. row_at columns x.1 >>= λ others. Ok (x.0 ∷ others.0, others.1)) ≡ all) r h in
    front_snoc row value (row_at columns q) ∙ read

-- a cell that is not read ends the reading
pub failed_cell : (row : List Value) (column : Column) (columns : List Column) (p : Place)
    (all : Result (List Value × Place) ℕ) → with_front row (row_at (column ∷ columns) p) ≡ all → (at : ℕ)
    → cell_at column.kind p ≡ Err at → all ≡ Err at
failed_cell row column columns p all h at r =
    sym (subst (λ (s : Result (Value × Place) ℕ). with_front row
    (s >>= λ x. row_at columns x.1 >>= λ others. Ok (x.0 ∷ others.0, others.1)) ≡ all) r h)
