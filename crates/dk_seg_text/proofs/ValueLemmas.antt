-- Values read one behind the other.
use Rattle.std.proofs.Common.{◌≡◌, ℕ, ℤ, zero, suc, ◌+◌, ◌<◌, ◌^◌, length, List, [], ◌∷◌, ◌++◌, Result, Ok, Err, refl, sym, ap, subst, ◌∙◌, append-nil, length-append, arith}
use Rattle.dk_bytes.specs.Bodies.{IsCodec}
use Rattle.std.specs.List.{All, AllByRecursion}
use Rattle.std.proofs.lemmas.List.{map-append}
use Rattle.dk_columns.proofs.StoredLemmas.{all_more}
use Rattle.dk_seg_body.specs.Numbers.{StandsFor, value_for, values_for}
use Rattle.dk_values.specs.declared.value.ColType.{ColType}
use Rattle.dk_values.specs.declared.value.Value.{Value}
use Rattle.dk_bytes.specs.Fields.{IsBytes, Place}
use Rattle.dk_bytes.specs.PlainValue.{IsPlain, plain_bytes, value_at}
use Rattle.dk_bytes.specs.Reading.{◌>>=◌, start, IsBody}
use Rattle.dk_bytes.proofs.NumberLemmas.{Takes, Takes-then, bind_ok, done, ok_is}
use Rattle.dk_bytes.proofs.PlainValueLemmas.{value_takes, value_again}
use Rattle.dk_bytes.proofs.OutcomeLemmas.{whole_at, whole_ok}
use Rattle.dk_seg_text.specs.Plain.{ArePlain, plain_body, values_at, plain_at}
use Rattle.dk_bytes.proofs.FrontLemmas.{with_front, front_snoc}

-- one more value is read
pub one_value : (kind : ColType) (values : List Value) (value : Value) (m n : ℕ) (p q : Place) (all : Result (List Value × Place) ℕ) → m ≡ suc n → value_at kind p ≡ Ok (value, q) → with_front values (values_at kind m p) ≡ all → with_front (values ++ value ∷ []) (values_at kind n q) ≡ all
one_value kind values value m n p q all e r h =
    let next : with_front values (values_at kind (suc n) p) ≡ all = subst (λ (k : ℕ). with_front values (values_at kind k p) ≡ all) e h in
    let read : with_front values (values_at kind n q >>= λ others. Ok (value ∷ others.0, others.1)) ≡ all
    = subst (λ (s : Result (Value × Place) ℕ). with_front values (s >>= λ x. values_at kind n x.1 >>= λ others. Ok (x.0 ∷ others.0, others.1)) ≡ all) r next in
    front_snoc values value (values_at kind n q) ∙ read

-- one more number is read
pub one_number : (kind : ColType) (numbers numbers' : List ℤ) (number kept : ℤ) (m n : ℕ) (p q : Place) (all : Result (List Value × Place) ℕ) → m ≡ suc n → kept ≡ number → numbers' ≡ numbers ++ kept ∷ [] → value_at kind p ≡ Ok (value_for kind number, q) → with_front (values_for kind numbers) (values_at kind m p) ≡ all → with_front (values_for kind numbers') (values_at kind n q) ≡ all
one_number kind numbers numbers' number kept m n p q all e k pushed r h =
    rw (pushed, k, map-append (value_for kind) numbers (number ∷ [])) (one_value kind (values_for kind numbers) (value_for kind number) m n p q all e r h)

pub more_stand : (kind : ColType) (numbers numbers' : List ℤ) (number kept : ℤ) → kept ≡ number → numbers' ≡ numbers ++ kept ∷ [] → StandsFor kind number → All (StandsFor kind) numbers → All (StandsFor kind) numbers'
more_stand kind numbers numbers' number kept k pushed stands all =
    all_more {A = ℤ} (StandsFor kind) {E = ℕ} (Ok tt) numbers numbers' kept all (subst (λ (n : ℤ). StandsFor kind n) (sym k) stands) pushed tt

-- a value that is not read ends the reading
pub failed_value : (kind : ColType) (values : List Value) (m n : ℕ) (p : Place) (all : Result (List Value × Place) ℕ) → m ≡ suc n → with_front values (values_at kind m p) ≡ all → (at : ℕ) → value_at kind p ≡ Err at → all ≡ Err at
failed_value kind values m n p all e h at r =
    let next : with_front values (values_at kind (suc n) p) ≡ all = subst (λ (k : ℕ). with_front values (values_at kind k p) ≡ all) e h in
    sym (subst (λ (s : Result (Value × Place) ℕ). with_front values (s >>= λ x. values_at kind n x.1 >>= λ others. Ok (x.0 ∷ others.0, others.1)) ≡ all) r next)

-- where all values were looked at
pub all_plain : (kind : ColType) (values left : List Value) (len : ℕ) → left ≡ [] → len < 2 ^ 64 → len + length (plain_body left) ≡ length (plain_body values) → (AllByRecursion (IsPlain kind) left → AllByRecursion (IsPlain kind) values) → ArePlain kind values
all_plain kind values left len e fits told k =
    let P : List Value → Type 0 = AllByRecursion (IsPlain kind) in
    let none : length (plain_body left) ≡ 0 = ap (λ (vs : List Value). length (plain_body vs)) e in
    record { plain = k (subst P (sym e) tt); room = omega arith }

-- what is read is what is written
pub record AreTaken (kind : ColType) (count : ℕ) (old new : Place) (values : List Value) : Type 0 where
  pub plain : AllByRecursion (IsPlain kind) values
  pub len : length values ≡ count
  pub takes : Takes old new (plain_body values)

values_taken : (kind : ColType) (n : ℕ) (p : Place) (x : List Value × Place) → IsBytes p.rest → values_at kind n p ≡ Ok x → AreTaken kind n p x.1 x.0
values_taken kind zero p x fits e =
    let same : ([], p) ≡ x = ok_is ([], p) x e in
    subst (λ (y : List Value × Place). AreTaken kind zero p y.1 y.0) same
    (record { plain = tt; len = refl; takes = record { passes = record { rest = refl; at = omega arith }; left = fits } })
values_taken kind (suc n) p x fits e =
    let b = bind_ok (value_at kind p) (λ value. values_at kind n value.1 >>= λ others. done (value.0 ∷ others.0, others.1)) x e in
    let t = value_takes kind p b.0 fits b.1 in
    let d = bind_ok (values_at kind n b.0.1) (λ others. done (b.0.0 ∷ others.0, others.1)) x b.2 in
    let u = values_taken kind n b.0.1 d.0 t.takes.left d.1 in
    subst (λ (y : List Value × Place). AreTaken kind (suc n) p y.1 y.0) (ok_is (b.0.0 ∷ d.0.0, d.0.1) x d.2)
    (record { plain = (t.plain, u.plain); len = omega (arith, u.len); takes = Takes-then p b.0.1 d.0.1 (plain_bytes b.0.0) (plain_body d.0.0) t.takes u.takes })

values_again : (kind : ColType) (values : List Value) (at : ℕ) → AllByRecursion (IsPlain kind) values → values_at kind (length values) (record { at = at; rest = plain_body values }) ≡ Ok (values, record { at = at + length (plain_body values); rest = [] })
values_again kind [] at h = let e : at + 0 ≡ at = omega arith in rw e refl
values_again kind (value ∷ values) at h =
    let ih = values_again kind values (at + length (plain_bytes value)) h.1 in
    let e : at + length (plain_bytes value) + length (plain_body values) ≡ at + length (plain_bytes value ++ plain_body values) = omega (arith, length-append (plain_bytes value) (plain_body values)) in
    rw (value_again kind value (plain_body values) at h.0, ih, e) refl

body_again : (kind : ColType) (values : List Value) → ArePlain kind values → plain_at kind (length values) (plain_body values) ≡ Ok values
body_again kind values h = whole_at _ values _ (values_again kind values 0 h.plain)

body_taken : (kind : ColType) (count : ℕ) (bytes : List ℕ) (values : List Value) → IsBytes bytes → length bytes < 2 ^ 64 → plain_at kind count bytes ≡ Ok values
    → IsBody (ArePlain kind) plain_body count bytes values
body_taken kind count bytes values fits short e =
    let w = whole_ok (values_at kind count (start bytes)) values e in
    let t = values_taken kind count (start bytes) (values, w.behind) fits w.told in
    let spelled : bytes ≡ plain_body values = t.takes.passes.rest ∙ ap (λ (rest : List ℕ). plain_body values ++ rest) w.used ∙ append-nil (plain_body values) in
    record {
      total = t.len;
      lawful = record { plain = t.plain; room = subst (λ (xs : List ℕ). length xs < 2 ^ 64) spelled short };
      spelled = spelled;
    }

pub plain_codec : (kind : ColType) → IsCodec (plain_at kind) (ArePlain kind) plain_body
plain_codec kind = record { takes = body_taken kind; again = body_again kind }
