-- A value that is read is the value that was written, and what was written is read again.
use Rattle.std.proofs.Common.{◌≡◌, ℕ, zero, suc, ◌+◌, ◌^◌, ◌<◌, Bool, true, false, cond, ltb, eqb, List, [], ◌∷◌, ◌++◌, length, Ok, Err, ℤ, refl, sym, subst, ◌∙◌, arith, IsUtf8}
use Rattle.std.specs.Prelude.{FitsSigned}
use Rattle.std.specs.Int.{w8, w16, w32, w64, to_le_bytes, cast_signed, cast_unsigned}
use Rattle.std.specs.Str.{is_utf8}
use Rattle.std.proofs.lemmas.Bool.{ltb-true}
use Rattle.std.proofs.lemmas.Str.{IsUtf8-from_is_utf8, is_utf8-from_IsUtf8}
use Rattle.std.proofs.lemmas.Int.{to_z-of_z, of_z-to_z}
use Rattle.std.proofs.Math.Facts.{sfits_to_z, Fits-of_z, Fits-of_lt, Fits-lt-pow}
use Rattle.dk_values.specs.declared.value.ColType.{ColType}
use Rattle.dk_values.specs.declared.value.ColType.TheVariants as types
use Rattle.dk_values.specs.declared.value.Value.{Value}
use Rattle.dk_values.specs.declared.value.Value.TheVariants as values
use Rattle.dk_bytes.specs.Fields.{IsBytes, Place, bytes_at, number_at}
use Rattle.dk_bytes.specs.Reading.{◌>>=◌}
use Rattle.dk_bytes.specs.PlainValue.{IsPlain, bit_byte, plain_bytes, bool_at, int_at, big_at, text_at, value_at}
use Rattle.dk_bytes.proofs.NumberLemmas.{low_byte, Takes, Takes-then, bind_ok, chosen_ok, wide8, wide16, wide32, wide64, bytes_takes, bytes_again, number_takes, number_again, done, ok_is}

-- what reading took from the front is this value of the type
pub record IsTaken (kind : ColType) (old new : Place) (value : Value) : Type 0 where
  pub plain : IsPlain kind value
  pub takes : Takes old new (plain_bytes value)

bit_is : (n : ℕ) → n < 2 → n ≡ bit_byte (eqb n 1)
bit_is zero h = refl
bit_is (suc zero) h = refl
bit_is (suc (suc n)) h = absurd (omega arith)

bool_takes : (p : Place) (x : Value × Place) → IsBytes p.rest → bool_at p ≡ Ok x → IsTaken types.Bool p x.1 x.0
unfolding bool_at
bool_takes p x fits e =
    let b : (n : ℕ × Place) × (number_at w8 p ≡ Ok n) × (cond (ltb n.0 2) (Ok (values.Bool (eqb n.0 1), n.1)) (Err p.at) ≡ Ok x)
    = bind_ok (number_at w8 p) (λ n. cond (ltb n.0 2) (Ok (values.Bool (eqb n.0 1), n.1)) (Err p.at)) x e in
    let n = b.0 in
    let t = number_takes w8 wide8 p n fits b.1 in
    let g = chosen_ok (ltb n.0 2) p.at (values.Bool (eqb n.0 1), n.1) x b.2 in
    let lt : n.0 < 2 = ltb-true n.0 2 g.0 in
    subst (λ (y : Value × Place). IsTaken types.Bool p y.1 y.0) g.1
    (record { plain = tt; takes = subst (λ (k : ℕ). Takes p n.1 (k ∷ [])) (low_byte n.0 (omega arith) ∙ bit_is n.0 lt) t.0 })

int_takes : (p : Place) (x : Value × Place) → IsBytes p.rest → int_at p ≡ Ok x → IsTaken types.Int p x.1 x.0
unfolding int_at
int_takes p x fits e =
    let b : (n : ℕ × Place) × (number_at w32 p ≡ Ok n) × (done (values.Int (cast_signed w32 n.0), n.1) ≡ Ok x)
    = bind_ok (number_at w32 p) (λ n. done (values.Int (cast_signed w32 n.0), n.1)) x e in
    let n = b.0 in
    let t = number_takes w32 wide32 p n fits b.1 in
    subst (λ (y : Value × Place). IsTaken types.Int p y.1 y.0) (ok_is (values.Int (cast_signed w32 n.0), n.1) x b.2)
    (record { plain = sfits_to_z {w = w32} {n = n.0} (Fits-of_lt t.1); takes = subst (λ (k : ℕ). Takes p n.1 (to_le_bytes w32 k)) (sym (of_z-to_z w32 n.0 t.1)) t.0 })

big_takes : (p : Place) (x : Value × Place) → IsBytes p.rest → big_at p ≡ Ok x → IsTaken types.Big p x.1 x.0
unfolding big_at
big_takes p x fits e =
    let b : (n : ℕ × Place) × (number_at w64 p ≡ Ok n) × (done (values.Big (cast_signed w64 n.0), n.1) ≡ Ok x)
    = bind_ok (number_at w64 p) (λ n. done (values.Big (cast_signed w64 n.0), n.1)) x e in
    let n = b.0 in
    let t = number_takes w64 wide64 p n fits b.1 in
    subst (λ (y : Value × Place). IsTaken types.Big p y.1 y.0) (ok_is (values.Big (cast_signed w64 n.0), n.1) x b.2)
    (record { plain = sfits_to_z {w = w64} {n = n.0} (Fits-of_lt t.1); takes = subst (λ (k : ℕ). Takes p n.1 (to_le_bytes w64 k)) (sym (of_z-to_z w64 n.0 t.1)) t.0 })

text_takes : (p : Place) (x : Value × Place) → IsBytes p.rest → text_at p ≡ Ok x → IsTaken types.Text p x.1 x.0
unfolding text_at
text_takes p x fits e =
    let b = bind_ok (number_at w16 p) (λ n. bytes_at n.0 n.1 >>= λ text. cond (is_utf8 text.0) (Ok (values.Text text.0, text.1)) (Err n.1.at)) x e in
    let n = b.0 in
    let t = number_takes w16 wide16 p n fits b.1 in
    let d = bind_ok (bytes_at n.0 n.1) (λ text. cond (is_utf8 text.0) (Ok (values.Text text.0, text.1)) (Err n.1.at)) x b.2 in
    let text = d.0 in
    let u = bytes_takes n.0 n.1 text t.0.left d.1 in
    let g = chosen_ok (is_utf8 text.0) n.1.at (values.Text text.0, text.1) x d.2 in
    subst (λ (y : Value × Place). IsTaken types.Text p y.1 y.0) g.1
    (record {
      plain = (subst (λ (k : ℕ). k < 2 ^ 16) (sym u.1) t.1, IsUtf8-from_is_utf8 text.0 g.0);
      takes = Takes-then p n.1 text.1 (to_le_bytes w16 (length text.0)) text.0
          (subst (λ (k : ℕ). Takes p n.1 (to_le_bytes w16 k)) (sym u.1) t.0) u.0;
    })

-- what is read as a value of the type is its bytes
pub value_takes : (kind : ColType) (p : Place) (x : Value × Place) → IsBytes p.rest → value_at kind p ≡ Ok x → IsTaken kind p x.1 x.0
value_takes types.Bool p x fits e = bool_takes p x fits e
value_takes types.Int p x fits e = int_takes p x fits e
value_takes types.Big p x fits e = big_takes p x fits e
value_takes types.Text p x fits e = text_takes p x fits e

-- the place behind a value's bytes
abbrev pub after : ℕ → List ℕ → List ℕ → Place
after at bytes rest = record { at = at + length bytes; rest = rest }

bool_again : (b : Bool) (rest : List ℕ) (at : ℕ) → bool_at (record { at = at; rest = bit_byte b ∷ rest }) ≡ Ok (values.Bool b, record { at = at + 1; rest = rest })
unfolding bool_at
bool_again true rest at = rw (number_again w8 wide8 1 rest at (omega arith)) refl
bool_again false rest at = rw (number_again w8 wide8 0 rest at (omega arith)) refl

int_again : (n : ℤ) (rest : List ℕ) (at : ℕ) → FitsSigned w32 n → int_at (record { at = at; rest = to_le_bytes w32 (cast_unsigned w32 n) ++ rest }) ≡ Ok (values.Int n, record { at = at + 4; rest = rest })
unfolding int_at
int_again n rest at h = rw (number_again w32 wide32 (cast_unsigned w32 n) rest at (Fits-lt-pow (Fits-of_z h)), to_z-of_z w32 n h) refl

big_again : (n : ℤ) (rest : List ℕ) (at : ℕ) → FitsSigned w64 n → big_at (record { at = at; rest = to_le_bytes w64 (cast_unsigned w64 n) ++ rest }) ≡ Ok (values.Big n, record { at = at + 8; rest = rest })
unfolding big_at
big_again n rest at h = rw (number_again w64 wide64 (cast_unsigned w64 n) rest at (Fits-lt-pow (Fits-of_z h)), to_z-of_z w64 n h) refl

text_again : (text rest : List ℕ) (at : ℕ) → length text < 2 ^ 16 → IsUtf8 text → text_at (record { at = at; rest = to_le_bytes w16 (length text) ++ (text ++ rest) }) ≡ Ok (values.Text text, record { at = at + 2 + length text; rest = rest })
unfolding text_at
text_again text rest at lt utf8 = rw (number_again w16 wide16 (length text) (text ++ rest) at lt, bytes_again text rest (at + 2), is_utf8-from_IsUtf8 text utf8) refl

-- a value's bytes are read as that value, whatever follows
pub value_again : (kind : ColType) (value : Value) (rest : List ℕ) (at : ℕ) → IsPlain kind value → value_at kind (record { at = at; rest = plain_bytes value ++ rest }) ≡ Ok (value, after at (plain_bytes value) rest)
value_again types.Bool (values.Bool b) rest at h = bool_again b rest at
value_again types.Int (values.Int n) rest at h = int_again n rest at h
value_again types.Big (values.Big n) rest at h = big_again n rest at h
value_again types.Text (values.Text text) rest at h =
    let same : at + length (plain_bytes (values.Text text)) ≡ at + 2 + length text = omega arith in
    rw same (text_again text rest at h.0 h.1)
value_again kind value rest at h = absurd h
