-- A reading that fails does so at the bytes' end or before it.
use Rattle.std.proofs.Common.{◌≡◌, ℕ, ◌+◌, ◌≤◌, Bool, true, false, cond, ltb, eqb, length, take, Option, Some, None, Result, Ok, Err, refl, arith, length-drop}
use Rattle.std.proofs.lemmas.Bool.{ltb-false}
use Rattle.std.specs.Int.{Width, w8, w16, w32, w64, byte_len, from_le_bytes}
use Rattle.std.specs.Str.{is_utf8}
use Rattle.dk_values.specs.declared.value.ColType.{ColType}
use Rattle.dk_values.specs.declared.value.ColType.TheVariants as types
use Rattle.dk_values.specs.declared.value.Value.{Value}
use Rattle.dk_values.specs.declared.value.Value.TheVariants as values
use Rattle.dk_bytes.specs.Fields.{Place, behind, bytes_at, number_at}
use Rattle.dk_bytes.specs.Reading.{◌>>=◌, or_fault, whole}
use Rattle.dk_bytes.specs.PlainValue.{bool_at, int_at, big_at, text_at, value_at}

abbrev pub end_of : Place → ℕ
end_of place = place.at + length place.rest

-- what is read is such a thing, and a fault stands at most at the end
abbrev pub Bounded : {A : Type 0} → ℕ → (A → Type 0) → Result A ℕ → Type 0
Bounded end P (Ok x) = P x
Bounded end P (Err at) = at ≤ end

-- a fault stands at most at the end
abbrev pub FailsBy : {A : Type 0} → ℕ → Result A ℕ → Type 0
FailsBy end reading = Bounded end (λ _. Unit {0}) reading

-- and what follows what was read ends there too
abbrev pub Within : {A : Type 0} → ℕ → Result (A × Place) ℕ → Type 0
Within end reading = Bounded end (λ x. end_of x.1 ≤ end) reading

pub bind_bounded : {A B : Type 0} (end : ℕ) (P : A → Type 0) (Q : B → Type 0) (r : Result A ℕ) (f : A → Result B ℕ) → Bounded end P r → ((x : A) → P x → Bounded end Q (f x)) → Bounded end Q (r >>= f)
bind_bounded end P Q (Ok x) f h k = k x h
bind_bounded end P Q (Err at) f h k = h

pub chosen_bounded : {A : Type 0} (end : ℕ) (P : A → Type 0) (b : Bool) (r : Result A ℕ) (at : ℕ) → Bounded end P r → at ≤ end → Bounded end P (cond b r (Err at))
chosen_bounded end P true r at p h = p
chosen_bounded end P false r at p h = h

pub guard_bounded : {A : Type 0} (end : ℕ) (P : A → Type 0) (b : Bool) (r : Result A ℕ) (at : ℕ) → Bounded end P r → at ≤ end → Bounded end P (cond b (Err at) r)
guard_bounded end P true r at p h = h
guard_bounded end P false r at p h = p

field_within : {A : Type 0} (end n : ℕ) (p : Place) (x : A) → end_of p ≤ end → Within end (cond (ltb (length p.rest) n) (Err p.at) (Ok (x, behind n p)))
field_within {A} end n p x h = by_test (ltb (length p.rest) n) refl
  where
    by_test : (b : Bool) → ltb (length p.rest) n ≡ b → Within end (cond b (Err p.at) (Ok (x, behind n p)))
    by_test true e = omega arith
    by_test false e = omega (arith, ltb-false (length p.rest) n e, length-drop n p.rest)

pub bytes_within : (end n : ℕ) (p : Place) → end_of p ≤ end → Within end (bytes_at n p)
bytes_within end n p h = field_within end n p (take n p.rest) h

pub number_within : (end : ℕ) (w : Width) (p : Place) → end_of p ≤ end → Within end (number_at w p)
number_within end w p h = field_within end (byte_len w) p (from_le_bytes w (take (byte_len w) p.rest)) h

-- what follows ends there
abbrev pub Inside : {A : Type 0} → ℕ → A × Place → Type 0
Inside end x = end_of x.1 ≤ end

bool_within : (end : ℕ) (p : Place) → end_of p ≤ end → Within end (bool_at p)
unfolding bool_at
bool_within end p h =
    bind_bounded end (Inside end) (Inside end) (number_at w8 p) _ (number_within end w8 p h)
    (λ n k. chosen_bounded end (Inside {A = Value} end) (ltb n.0 2) (Ok (values.Bool (eqb n.0 1), n.1)) p.at k (omega arith))

int_within : (end : ℕ) (p : Place) → end_of p ≤ end → Within end (int_at p)
unfolding int_at
int_within end p h = bind_bounded end (Inside end) (Inside end) (number_at w32 p) _ (number_within end w32 p h) (λ n k. k)

big_within : (end : ℕ) (p : Place) → end_of p ≤ end → Within end (big_at p)
unfolding big_at
big_within end p h = bind_bounded end (Inside end) (Inside end) (number_at w64 p) _ (number_within end w64 p h) (λ n k. k)

text_within : (end : ℕ) (p : Place) → end_of p ≤ end → Within end (text_at p)
unfolding text_at
text_within end p h =
    bind_bounded end (Inside end) (Inside end) (number_at w16 p) _ (number_within end w16 p h)
    (λ n k. bind_bounded end (Inside end) (Inside end) (bytes_at n.0 n.1) _ (bytes_within end n.0 n.1 k)
    (λ text l. chosen_bounded end (Inside {A = Value} end) (is_utf8 text.0) (Ok (values.Text text.0, text.1)) n.1.at l (omega arith)))

-- a value is read within the bytes
pub value_within : (end : ℕ) (kind : ColType) (p : Place) → end_of p ≤ end → Within end (value_at kind p)
value_within end types.Bool p h = bool_within end p h
value_within end types.Int p h = int_within end p h
value_within end types.Big p h = big_within end p h
value_within end types.Text p h = text_within end p h

pub whole_bounded : {A : Type 0} (end : ℕ) (reading : Result (A × Place) ℕ) → Within end reading → FailsBy end (whole reading)
whole_bounded {A} end reading h =
    bind_bounded {A = A × Place} end (Inside end) (λ (_ : A). Unit {0}) reading _ h
    (λ x k. chosen_bounded end (λ (_ : A). Unit {0}) (eqb (length x.1.rest) 0) (Ok x.0) x.1.at tt (omega arith))

pub fault_bounded : {A : Type 0} (end at : ℕ) (o : Option A) → at ≤ end → FailsBy end (or_fault at o)
fault_bounded end at None h = h
fault_bounded end at (Some x) h = tt
