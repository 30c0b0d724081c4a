-- A value and its rank.
use Rattle.std.proofs.Common.{◌≡◌, ℕ, ℤ, pos, negsuc, ◌+◌, ◌-◌, ◌<◌, ◌≤◌, ◌^◌, ◌&&◌, Bool, true, false, cond, ltb, leb, eqb, Some, None, refl, ap, sym, subst, arith, inl, inr}
use Rattle.dk_bytes.proofs.NumberLemmas.{chosen}
use Rattle.std.specs.Prelude.{FitsSigned}
use Rattle.std.specs.Int.{w32, w64}
use Rattle.std.proofs.lemmas.Bool.{ltb-true, leb-true, lt-ltb, le-ltb, le-leb, eqb-true, and_parts, and_from, cases_lt}
use Rattle.dk_values.specs.declared.value.ColType.{ColType}
use Rattle.dk_values.specs.declared.value.ColType.TheVariants as types
use Rattle.dk_values.specs.declared.value.Value.{Value}
use Rattle.dk_values.specs.declared.value.Value.TheVariants as values
use Rattle.dk_bytes.specs.PlainValue.{IsPlain}
use Rattle.dk_seg_pack.specs.Packed.{rank, number_of_rank, rank_of, value_of_rank, half_turned, IsNumeric}

rank_below_64 : (n : ℤ) → FitsSigned w64 n → rank n < 2 ^ 64
rank_below_64 (pos n) h = omega (arith, h.sfits)
rank_below_64 (negsuc n) h = omega arith

number_again : (n : ℤ) → FitsSigned w64 n → number_of_rank (rank n) ≡ n
number_again (pos n) h = rw (le-ltb (2 ^ 63 + n) (2 ^ 63) (omega arith)) (ap pos (omega arith))
number_again (negsuc n) h = rw (lt-ltb (2 ^ 63 - 1 - n) (2 ^ 63) (omega arith)) (ap negsuc (omega (arith, h.sfits)))

wider : (n : ℤ) → FitsSigned w32 n → FitsSigned w64 n
wider n h = record { sfits = omega (arith, h.sfits) }

int_low : (n : ℤ) → FitsSigned w32 n → leb (2 ^ 63 - 2 ^ 31) (rank n) ≡ true
int_low (pos n) h = le-leb _ _ (omega arith)
int_low (negsuc n) h = le-leb _ _ (omega (arith, h.sfits))

int_high : (n : ℤ) → FitsSigned w32 n → ltb (rank n) (2 ^ 63 + 2 ^ 31) ≡ true
int_high (pos n) h = lt-ltb _ _ (omega (arith, h.sfits))
int_high (negsuc n) h = lt-ltb _ _ (omega arith)

-- the rank of a value of the type, and the value of that rank
pub rank_below : (kind : ColType) (value : Value) → IsNumeric kind → IsPlain kind value → rank_of value < 2 ^ 64
rank_below types.Bool (values.Bool true) n h = omega arith
rank_below types.Bool (values.Bool false) n h = omega arith
rank_below types.Int (values.Int z) n h = rank_below_64 z (wider z h)
rank_below types.Big (values.Big z) n h = rank_below_64 z h
rank_below types.Text value n h = absurd n
rank_below kind value n h = absurd h

pub value_again : (kind : ColType) (value : Value) → IsNumeric kind → IsPlain kind value → value_of_rank kind (rank_of value) ≡ Some value
value_again types.Bool (values.Bool true) n h = refl
value_again types.Bool (values.Bool false) n h = refl
value_again types.Int (values.Int z) n h = rw (and_from _ _ (int_low z h) (int_high z h), number_again z (wider z h)) refl
value_again types.Big (values.Big z) n h = rw (lt-ltb (rank z) (2 ^ 64) (rank_below_64 z h), number_again z h) refl
value_again types.Text value n h = absurd n
value_again kind value n h = absurd h

-- the value of a rank is one of the type, and has that rank
pub record HasRank (kind : ColType) (value : Value) (r : ℕ) : Type 0 where
  pub plain : IsPlain kind value
  pub same : rank_of value ≡ r
  pub below : r < 2 ^ 64

low_number : (r : ℕ) → r < 2 ^ 63 → number_of_rank r ≡ negsuc (2 ^ 63 - 1 - r)
low_number r h = rw (lt-ltb r (2 ^ 63) h) refl

high_number : (r : ℕ) → 2 ^ 63 ≤ r → number_of_rank r ≡ pos (r - 2 ^ 63)
high_number r h = rw (le-ltb r (2 ^ 63) h) refl

pub number_fits : (r : ℕ) → r < 2 ^ 64 → FitsSigned w64 (number_of_rank r) × (rank (number_of_rank r) ≡ r)
number_fits r h =
    let P : ℤ → Type 0 = λ z. FitsSigned w64 z × (rank z ≡ r) in
    elim (cases_lt r (2 ^ 63)) [
      | inl lt ↦ subst P (sym (low_number r lt)) (record { sfits = omega arith }, omega arith)
      | inr le ↦ subst P (sym (high_number r le)) (record { sfits = omega arith }, omega arith)
    ]

pub int_fits : (r : ℕ) → 2 ^ 63 - 2 ^ 31 ≤ r → r < 2 ^ 63 + 2 ^ 31 → FitsSigned w32 (number_of_rank r) × (rank (number_of_rank r) ≡ r)
int_fits r h k =
    let P : ℤ → Type 0 = λ z. FitsSigned w32 z × (rank z ≡ r) in
    elim (cases_lt r (2 ^ 63)) [
      | inl lt ↦ subst P (sym (low_number r lt)) (record { sfits = omega arith }, omega arith)
      | inr le ↦ subst P (sym (high_number r le)) (record { sfits = omega arith }, omega arith)
    ]

bool_taken : (r : ℕ) (first second : Bool) (value : Value) → first ≡ eqb r (2 ^ 63) → second ≡ eqb r (2 ^ 63 + 1) → cond first (Some (values.Bool false)) (cond second (Some (values.Bool true)) None) ≡ Some value → HasRank types.Bool value r
bool_taken r true second value f g e =
    let is : values.Bool false ≡ value = cc in
    let at = eqb-true r (2 ^ 63) (sym f) in
    subst (λ v. HasRank types.Bool v r) is (record { plain = tt; same = sym at; below = omega arith })
bool_taken r false true value f g e =
    let is : values.Bool true ≡ value = cc in
    let at = eqb-true r (2 ^ 63 + 1) (sym g) in
    subst (λ v. HasRank types.Bool v r) is (record { plain = tt; same = sym at; below = omega arith })
bool_taken r false false value f g e = absurd cc

pub value_taken : (kind : ColType) (r : ℕ) (value : Value) → value_of_rank kind r ≡ Some value → HasRank kind value r
value_taken types.Bool r value e = bool_taken r (eqb r (2 ^ 63)) (eqb r (2 ^ 63 + 1)) value refl refl e
value_taken types.Int r value e =
    let c = chosen (leb (2 ^ 63 - 2 ^ 31) r && ltb r (2 ^ 63 + 2 ^ 31)) (values.Int (number_of_rank r)) value e in
    let t = and_parts _ _ c.0 in
    let high = ltb-true _ _ t.1 in
    let f = int_fits r (leb-true _ _ t.0) high in
    subst (λ v. HasRank types.Int v r) c.1 (record { plain = f.0; same = f.1; below = omega (arith, high) })
value_taken types.Big r value e =
    let c = chosen (ltb r (2 ^ 64)) (values.Big (number_of_rank r)) value e in
    let high = ltb-true _ _ c.0 in
    let f = number_fits r high in
    subst (λ v. HasRank types.Big v r) c.1 (record { plain = f.0; same = f.1; below = high })
value_taken types.Text r value e = absurd cc

-- turned by half and back
pub turned_twice : (r : ℕ) → r < 2 ^ 64 → half_turned (half_turned r) ≡ r
turned_twice r h = omega arith

pub turned_below : (r : ℕ) → half_turned r < 2 ^ 64
turned_below r = omega arith
