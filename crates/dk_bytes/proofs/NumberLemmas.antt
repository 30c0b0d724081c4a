-- A number that is read is the number that was written, and what was written is read again.
use Rattle.std.proofs.Common.{◌≡◌, ℕ, ◌+◌, ◌%◌, ◌^◌, ◌<◌, ◌≤◌, Bool, true, false, cond, ltb, List, [], ◌∷◌, ◌++◌, length, take, drop, Option, Some, None, Result, Ok, Err, refl, sym, ap, subst, ◌∙◌, append_assoc, arith, inl, inr, zero, suc, ◌==◌}
use Rattle.std.specs.Int.{Width, w8, w16, w32, w64, byte_len, from_le_bytes, to_le_bytes}
use mir.Val.{bits}
use Rattle.std.proofs.lemmas.Bool.{cases_lt, ltb-false, le-ltb}
use Rattle.std.proofs.lemmas.List.{take_at, drop_at, take-append-drop, length-append, length-take, get_or-drop, get_or-take, get_or_past}
use Rattle.std.proofs.lemmas.Nat.{le_bytes_2, le_bytes_4, le_bytes_8, from_le_bytes-to_le_bytes_2, from_le_bytes-to_le_bytes_4, from_le_bytes-to_le_bytes_8}
use Rattle.dk_bytes.specs.Fields.{IsBytes, Place, Passes, behind, bytes_at, number_at}
use Rattle.dk_bytes.specs.Reading.{◌>>=◌, or_fault}

pub IsBytes-drop : (n : ℕ) (bytes : List ℕ) → IsBytes bytes → IsBytes (drop n bytes)
IsBytes-drop n bytes h i = rw get_or-drop (h (n + i))

pub IsBytes-take : (n : ℕ) (bytes : List ℕ) → IsBytes bytes → IsBytes (take n bytes)
IsBytes-take n bytes h i =
    elim (cases_lt i n) [
      | inl lt ↦ rw (get_or-take n bytes i 0 lt) (h i)
      | inr le ↦ rw (get_or_past (take n bytes) i 0 (omega (arith, length-take n bytes))) (omega arith)
    ]

-- the value of a step that did not fail
pub bind_ok : {A B : Type 0} (r : Result A ℕ) (f : A → Result B ℕ) (y : B) → (r >>= f) ≡ Ok y → (x : A) × (r ≡ Ok x) × (f x ≡ Ok y)
bind_ok (Ok x) f y e = (x, refl, e)
bind_ok (Err d) f y e = absurd cc

-- a step that did not fail, and then the next
pub bind_at : {A B : Type 0} (r : Result A ℕ) (f : A → Result B ℕ) (x : A) (y : Result B ℕ) → r ≡ Ok x → f x ≡ y → (r >>= f) ≡ y
bind_at r f x y e h = let P : Result _ ℕ → Type 0 = λ r. (r >>= f) ≡ y in subst P (sym e) h

-- a test that did not fail
pub guard_ok : {A : Type 0} (b : Bool) (d : ℕ) (x y : A) → cond b (Err d) (Ok x) ≡ Ok y → (b ≡ false) × (x ≡ y)
guard_ok true d x y e = absurd cc
guard_ok false d x y e = (refl, cc)

pub chosen_ok : {A : Type 0} (b : Bool) (d : ℕ) (x y : A) → cond b (Ok x) (Err d) ≡ Ok y → (b ≡ true) × (x ≡ y)
chosen_ok true d x y e = (refl, cc)
chosen_ok false d x y e = absurd cc

pub passed_ok : {A : Type 0} (b : Bool) (d : ℕ) (r : Result A ℕ) (y : A) → cond b (Err d) r ≡ Ok y → (b ≡ false) × (r ≡ Ok y)
passed_ok true d r y e = absurd cc
passed_ok false d r y e = (refl, e)

pub fault_none : {A : Type 0} (d : ℕ) (o : Option A) (x : A) → or_fault d o ≡ Ok x → o ≡ Some x
fault_none d None x e = absurd cc
fault_none d (Some y) x e = let same : y ≡ x = cc in ap (λ v. Some v) same

-- a value that was read
abbrev pub done : {A : Type 0} → A → Result A ℕ
done x = Ok x

pub ok_is : {A : Type 0} (x y : A) → done x ≡ done y → x ≡ y
ok_is x y e = cc

-- what a reader took from the front, and what it left
pub record Takes (old new : Place) (text : List ℕ) : Type 0 where
  pub passes : Passes old new text
  pub left : IsBytes new.rest

pub Takes-then : (a b c : Place) (x y : List ℕ) → Takes a b x → Takes b c y → Takes a c (x ++ y)
Takes-then a b c x y p q = record {
  passes = record {
    rest = p.passes.rest ∙ ap (λ (t : List ℕ). x ++ t) q.passes.rest ∙ sym (append_assoc x y c.rest);
    at = omega (arith, length-append x y, p.passes.at, q.passes.at);
  };
  left = q.left;
}

pub record IsWide (w : Width) : Type 0 where
  pub len : (n : ℕ) → length (to_le_bytes w n) ≡ byte_len w
  pub back : (bytes : List ℕ) → length bytes ≡ byte_len w → IsBytes bytes → to_le_bytes w (from_le_bytes w bytes) ≡ bytes
  pub again : (n : ℕ) → n < 2 ^ bits w → from_le_bytes w (to_le_bytes w n) ≡ n
  pub below : (bytes : List ℕ) → IsBytes bytes → from_le_bytes w bytes < 2 ^ bits w

pub low_byte : (n : ℕ) → n < 2 ^ 8 → n % 256 ≡ n
low_byte n lt = omega arith

pub wide8 : IsWide w8
wide8 = record {
  len = λ n. refl;
  back = byte_back;
  again = λ n lt. byte_again n lt;
  below = λ bytes fits. omega (arith, fits 0);
}
  where
    byte_back : (bytes : List ℕ) → length bytes ≡ 1 → IsBytes bytes → to_le_bytes w8 (from_le_bytes w8 bytes) ≡ bytes
    byte_back [] len fits = absurd (omega arith)
    byte_back (b ∷ []) len fits = ap (λ (k : ℕ). k ∷ []) (low_byte b (fits 0))
    byte_back (b ∷ c ∷ bytes) len fits = absurd (omega arith)

    byte_again : (n : ℕ) → n < 2 ^ 8 → from_le_bytes w8 (to_le_bytes w8 n) ≡ n
    byte_again n lt = low_byte n lt

pub wide16 : IsWide w16
wide16 = record {
  len = λ n. refl;
  back = λ bytes len fits. le_bytes_2 bytes _ len fits refl;
  again = λ n lt. from_le_bytes-to_le_bytes_2 n lt;
  below = λ bytes fits. omega (arith, fits 0, fits 1);
}

pub wide32 : IsWide w32
wide32 = record {
  len = λ n. refl;
  back = λ bytes len fits. le_bytes_4 bytes _ len fits refl;
  again = λ n lt. from_le_bytes-to_le_bytes_4 n lt;
  below = λ bytes fits. omega (arith, fits 0, fits 1, fits 2, fits 3);
}

pub wide64 : IsWide w64
wide64 = record {
  len = λ n. refl;
  back = λ bytes len fits. le_bytes_8 bytes _ len fits refl;
  again = λ n lt. from_le_bytes-to_le_bytes_8 n lt;
  below = λ bytes fits. omega (arith, fits 0, fits 1, fits 2, fits 3, fits 4, fits 5, fits 6, fits 7);
}

-- the next n bytes are passed
pub bytes_takes : (n : ℕ) (p : Place) (x : List ℕ × Place) → IsBytes p.rest → bytes_at n p ≡ Ok x → Takes p x.1 x.0 × (length x.0 ≡ n)
bytes_takes n p x fits e =
    let g = guard_ok (ltb (length p.rest) n) p.at (take n p.rest, behind n p) x e in
    let long : n ≤ length p.rest = ltb-false _ _ g.0 in
    let len : length (take n p.rest) ≡ n = omega (arith, length-take n p.rest) in
    subst (λ (y : List ℕ × Place). Takes p y.1 y.0 × (length y.0 ≡ n)) g.1
    (record { passes = record { rest = sym (take-append-drop n p.rest); at = ap (λ (k : ℕ). p.at + k) (sym len) }; left = IsBytes-drop n p.rest fits }, len)

pub bytes_front : (n : ℕ) (p : Place) (x : List ℕ × Place) → IsBytes p.rest → bytes_at n p ≡ Ok x → IsBytes x.0
bytes_front n p x fits e =
    let g = guard_ok (ltb (length p.rest) n) p.at (take n p.rest, behind n p) x e in
    subst (λ (y : List ℕ × Place). IsBytes y.0) g.1 (IsBytes-take n p.rest fits)

pub bytes_again : (text rest : List ℕ) (at : ℕ) → bytes_at (length text) (record { at = at; rest = text ++ rest }) ≡ Ok (text, record { at = at + length text; rest = rest })
bytes_again text rest at =
    let long : ltb (length (text ++ rest)) (length text) ≡ false = le-ltb _ _ (omega (arith, length-append text rest)) in
    rw (long, take_at text rest (length text) refl, drop_at text rest (length text) refl) refl

pub number_takes : (w : Width) (wide : IsWide w) (p : Place) (x : ℕ × Place) → IsBytes p.rest → number_at w p ≡ Ok x → Takes p x.1 (to_le_bytes w x.0) × (x.0 < 2 ^ bits w)
number_takes w wide p x fits e =
    let g = guard_ok (ltb (length p.rest) (byte_len w)) p.at (from_le_bytes w (take (byte_len w) p.rest), behind (byte_len w) p) x e in
    let long : byte_len w ≤ length p.rest = ltb-false _ _ g.0 in
    let front = take (byte_len w) p.rest in
    let len : length (take (byte_len w) p.rest) ≡ byte_len w = omega (arith, length-take (byte_len w) p.rest) in
    let small : IsBytes (take (byte_len w) p.rest) = IsBytes-take (byte_len w) p.rest fits in
    let same : to_le_bytes w (from_le_bytes w (take (byte_len w) p.rest)) ≡ take (byte_len w) p.rest = wide.back (take (byte_len w) p.rest) len small in
    subst (λ (y : ℕ × Place). Takes p y.1 (to_le_bytes w y.0) × (y.0 < 2 ^ bits w)) g.1 (
      subst (λ (t : List ℕ). Takes p (behind (byte_len w) p) t) (sym same)
          (record { passes = record { rest = sym (take-append-drop (byte_len w) p.rest); at = ap (λ (k : ℕ). p.at + k) (sym len) }; left = IsBytes-drop (byte_len w) p.rest fits }),
      wide.below (take (byte_len w) p.rest) small,
    )

pub number_again : (w : Width) (wide : IsWide w) (n : ℕ) (rest : List ℕ) (at : ℕ) → n < 2 ^ bits w → number_at w (record { at = at; rest = to_le_bytes w n ++ rest }) ≡ Ok (n, record { at = at + byte_len w; rest = rest })
number_again w wide n rest at lt =
    let len = wide.len n in
    let long : ltb (length (to_le_bytes w n ++ rest)) (byte_len w) ≡ false = le-ltb _ _ (omega (arith, length-append (to_le_bytes w n) rest)) in
    rw (long, take_at (to_le_bytes w n) rest (byte_len w) len, drop_at (to_le_bytes w n) rest (byte_len w) len, wide.again n lt) refl

pub chosen : {A : Type 0} (b : Bool) (x y : A) → cond b (Some x) None ≡ Some y → (b ≡ true) × (x ≡ y)
chosen true x y e = (refl, cc)
chosen false x y e = absurd cc

pub some_items : (count n : ℕ) → n ≡ count → (count == 0) ≡ false → 0 < n
some_items zero n e f = absurd cc
some_items (suc count) n e f = omega arith
