-- A segment is read as the values that were written, and what is read is a segment.
use Rattle.std.proofs.Common.{◌≡◌, ℕ, zero, suc, ◌+◌, ◌*◌, ◌^◌, ◌<◌, ◌≤◌, Bool, true, false, ◌&&◌, ◌||◌, cond, eqb, ltb, leb, List, [], ◌∷◌, ◌++◌, length, Option, Some, None, Result, Ok, Err, refl, sym, ap, subst, ◌∙◌, arith, inl, inr, ◌⊎◌, ◌/◌}
use Rattle.dk_bytes.proofs.PackingLemmas.{found_packed, packed_again}
use Rattle.std.specs.List.{AllByRecursion, list_all, list_any}
use Rattle.std.specs.Int.{w8, w32, to_le_bytes}
use Rattle.std.proofs.lemmas.Bool.{ltb-true, leb-true, le-leb, and_parts}
use Rattle.std.proofs.lemmas.Bool.Decides.{Decides-eqb}
use Rattle.std.specs.Simd.Lanes.{digits_l as digits, number_l as number}
use Rattle.dk_bytes.proofs.NumberLemmas.{ok_is, fault_none, bytes_front}
use Rattle.dk_values.specs.declared.value.ColType.{ColType}
use Rattle.dk_values.specs.declared.value.Value.{Value}
use Rattle.dk_bytes.specs.Fields.{IsBytes, Place, bytes_at, number_at}
use Rattle.dk_bytes.specs.Reading.{◌>>=◌, start, or_fault}
use Rattle.dk_bytes.proofs.NumberLemmas.{low_byte, Takes, bind_ok, bind_at, chosen_ok, wide8, wide32, number_takes, number_again, bytes_takes, bytes_again}
use Rattle.dk_bytes.specs.Bits.{byte_count, packed, numbers_in}
use Rattle.std.proofs.lemmas.List.{length-append}
use Rattle.dk_bytes.proofs.DigitLemmas.{length-digits}
use Rattle.dk_segment.specs.declared.encoding.Encoding.{Encoding}
use Rattle.dk_segment.specs.declared.encoding.Encoding.TheVariants.{Constant, RunLength, Packed, Dictionary, Plain}
use Rattle.dk_segment.specs.Bodies.{Holds, body_of, body_at, code_of, encoding_of, known, goes_with, is_plain}
use Rattle.dk_segment.specs.Segment.{flags_of, ones, with_nulls, mask_flag, mask_bytes, segment_bytes, IsSegment, encoding_at, flag_at, count_at, mask_of, flags_at, moved, masked_at, values_at, segment_at}
use Rattle.dk_bytes.specs.PlainValue.{is_present, present}
use Rattle.dk_bytes.proofs.BodyLemmas.{body_read}
use Rattle.dk_segment.proofs.BodyLemmas.{body_codec, holds_plain, holds_goes, holds_some}
use Rattle.dk_segment.proofs.NullLemmas.{all_present, null_flag, flag_null, ones_flags, present_flag, flags_fit, placed_again, length-flags, plain_all_present, made_of}

abbrev ok_values : List Value → Result (List Value) ℕ
ok_values x = Ok x

-- ---- what was written is read again

abbrev ok_encoding : Encoding × Place → Result (Encoding × Place) ℕ
ok_encoding x = Ok x

abbrev place : ℕ → List ℕ → Place
place at rest = record { at = at; rest = rest }

encoding_again : (encoding : Encoding) (kind : ColType) (rest : List ℕ) (at : ℕ) → goes_with encoding kind ≡ true → encoding_at kind (place at (code_of encoding ∷ rest)) ≡ Ok (encoding, place (at + 1) rest)
unfolding encoding_at
encoding_again Plain kind rest at e = rw (number_again w8 wide8 0 rest at (omega arith)) refl
encoding_again Constant kind rest at e = rw (number_again w8 wide8 1 rest at (omega arith)) refl
encoding_again RunLength kind rest at e = rw (number_again w8 wide8 2 rest at (omega arith)) refl
encoding_again Packed kind rest at e = rw (number_again w8 wide8 3 rest at (omega arith), e) refl
encoding_again Dictionary kind rest at e = rw (number_again w8 wide8 4 rest at (omega arith), e) refl

flag_again : (b : Bool) (rest : List ℕ) (at : ℕ) → flag_at (place at (cond b 0 1 ∷ rest)) ≡ Ok (cond b 0 1, place (at + 1) rest)
unfolding flag_at
flag_again true rest at = rw (number_again w8 wide8 0 rest at (omega arith)) refl
flag_again false rest at = rw (number_again w8 wide8 1 rest at (omega arith)) refl

count_again : (n : ℕ) (rest : List ℕ) (at : ℕ) → 1 ≤ n → n ≤ 2048 → count_at (place at (to_le_bytes w32 n ++ rest)) ≡ Ok (n, place (at + 4) rest)
unfolding count_at
count_again n rest at low high = rw (number_again w32 wide32 n rest at (omega arith), le-leb 1 n low, le-leb n 2048 high) refl

abbrev ok_flags : List ℕ × Place → Result (List ℕ × Place) ℕ
ok_flags x = Ok x

is_mask : (encoding : Encoding) (kind : ColType) (values : List Value) → Holds encoding kind (present values) → list_all is_present values ≡ false → mask_of encoding (Some (flags_of values)) ≡ Some (flags_of values)
is_mask encoding kind values h e = rw (null_flag values e, one (is_plain encoding) refl) refl
  where
    one : (b : Bool) → is_plain encoding ≡ b → (is_plain encoding || list_any (λ flag. eqb flag 1) (flags_of values)) ≡ true
    one true p = rw p refl
    one false p = rw (p, present_flag values (holds_some encoding kind (present values) h p)) refl

flags_again : (encoding : Encoding) (kind : ColType) (values : List Value) (rest : List ℕ) (at : ℕ) → Holds encoding kind (present values) → list_all is_present values ≡ false
    → flags_at encoding (length values) (place at (packed 1 (flags_of values) ++ rest)) ≡ Ok (flags_of values, place (at + length (packed 1 (flags_of values))) rest)
unfolding flags_at
flags_again encoding kind values rest at h e =
    let flags = flags_of values in
    let text = packed 1 (flags_of values) in
    let count : byte_count (1 * length values) ≡ length (packed 1 (flags_of values))
    = ap (λ (n : ℕ). byte_count (1 * n)) (sym (length-flags values)) ∙ sym (length-digits 256 (byte_count (1 * length (flags_of values))) (number (2 ^ 1) (flags_of values))) in
    let read : bytes_at (byte_count (1 * length values)) (place at (packed 1 (flags_of values) ++ rest)) ≡ Ok (text, place (at + length text) rest)
    = subst (λ (n : ℕ). bytes_at n (place at (packed 1 (flags_of values) ++ rest)) ≡ Ok (text, place (at + length text) rest)) (sym count) (bytes_again (packed 1 (flags_of values)) rest at) in
    let numbers : numbers_in 1 (length values) (packed 1 (flags_of values)) ≡ Some (flags_of values)
    = subst (λ (n : ℕ). numbers_in 1 n (packed 1 (flags_of values)) ≡ Some (flags_of values)) (length-flags values) (packed_again 1 (flags_of values) (flags_fit values)) in
    let mask : mask_of encoding (numbers_in 1 (length values) (packed 1 (flags_of values))) ≡ Some (flags_of values)
    = ap (mask_of encoding) numbers ∙ is_mask encoding kind values h e in
    bind_at (bytes_at (byte_count (1 * length values)) (place at (packed 1 (flags_of values) ++ rest)))
    (λ bytes. or_fault at (mask_of encoding (numbers_in 1 (length values) bytes.0)) >>= λ flags. Ok (flags, bytes.1))
    (text, place (at + length text) rest) (Ok (flags, place (at + length text) rest)) read
    (ap (λ (o : Option (List ℕ)). or_fault at o >>= λ flags. ok_flags (flags, place (at + length text) rest)) mask)

masked_again : (encoding : Encoding) (kind : ColType) (values : List Value) (at : ℕ) → Holds encoding kind (present values) → list_all is_present values ≡ false
    → masked_at encoding kind (length values) (place at (packed 1 (flags_of values) ++ body_of encoding (present values))) ≡ Ok values
unfolding masked_at
masked_again encoding kind values at h e =
    let body : body_at encoding kind (ones (flags_of values)) (body_of encoding (present values)) ≡ Ok (present values)
    = body_read (body_at encoding kind) (Holds encoding kind) (body_of encoding) (body_codec encoding kind)
    (ones (flags_of values)) (body_of encoding (present values)) (present values)
    (record { total = sym (ones_flags values); lawful = h; spelled = refl }) in
    rw (flags_again encoding kind values (body_of encoding (present values)) at h e, body) (ap (λ (l : List Value). ok_values l) (placed_again values))

values_again : (encoding : Encoding) (kind : ColType) (values : List Value) (at : ℕ) → Holds encoding kind (present values)
    → values_at encoding kind (mask_flag values) (length values, place at (mask_bytes values ++ body_of encoding (present values))) ≡ Ok values
values_again encoding kind values at h = by_test (list_all is_present values) refl
  where
    by_test : (b : Bool) → list_all is_present values ≡ b → values_at encoding kind (mask_flag values) (length values, place at (mask_bytes values ++ body_of encoding (present values))) ≡ Ok values
    by_test true e =
        let same = all_present values e in
        let body : body_at encoding kind (length values) (body_of encoding (present values)) ≡ Ok (present values)
        = body_read (body_at encoding kind) (Holds encoding kind) (body_of encoding) (body_codec encoding kind)
        (length values) (body_of encoding (present values)) (present values)
        (record { total = ap length same; lawful = h; spelled = refl }) in
        rw (e, body) (ap (λ (l : List Value). ok_values l) same)
    by_test false e = rw e (masked_again encoding kind values at h e)

pub segment_again : (kind : ColType) (encoding : Encoding) (values : List Value) (bytes : List ℕ) → IsSegment kind encoding values bytes → segment_at kind bytes ≡ Ok values
unfolding segment_at
segment_again kind encoding values bytes s =
    let body = mask_bytes values ++ body_of encoding (present values) in
    let counted = to_le_bytes w32 (length values) ++ body in
    subst (λ (l : List ℕ). segment_at kind l ≡ Ok values) (sym s.spelled)
    (bind_at (encoding_at kind (place 0 (segment_bytes encoding values)))
    (λ encoding. flag_at encoding.1 >>= λ flag. count_at flag.1 >>= λ count. values_at encoding.0 kind flag.0 count)
    (encoding, place (0 + 1) (mask_flag values ∷ counted)) (Ok values)
    (encoding_again encoding kind (mask_flag values ∷ counted) 0 (holds_goes encoding kind (present values) s.holds))
    (bind_at (flag_at (place (0 + 1) (mask_flag values ∷ counted)))
    (λ flag. count_at flag.1 >>= λ count. values_at encoding kind flag.0 count)
    (mask_flag values, place (0 + 1 + 1) counted) (Ok values)
    (flag_again (list_all is_present values) counted (0 + 1))
    (bind_at (count_at (place (0 + 1 + 1) counted)) (λ count. values_at encoding kind (mask_flag values) count)
    (length values, place (0 + 1 + 1 + 4) body) (Ok values)
    (count_again (length values) body (0 + 1 + 1) s.some s.few)
    (values_again encoding kind values (0 + 1 + 1 + 4) s.holds))))

-- ---- what is read is a segment

tested : {A : Type 0} (b : Bool) (x y : Option A) (z : A) → cond b x y ≡ Some z → ((b ≡ true) × (x ≡ Some z)) ⊎ ((b ≡ false) × (y ≡ Some z))
tested true x y z e = inl (refl, e)
tested false x y z e = inr (refl, e)

known_is : (encoding found : Encoding) (kind : ColType) → known encoding kind ≡ Some found → code_of encoding ≡ code_of found
known_is encoding found kind e = by_test (goes_with encoding kind) e
  where
    by_test : (b : Bool) → cond b (Some encoding) None ≡ Some found → code_of encoding ≡ code_of found
    by_test true e = let same : encoding ≡ found = cc in ap code_of same
    by_test false e = absurd cc

eqb-is : (m n : ℕ) → eqb m n ≡ true → m ≡ n
eqb-is m n e = (Decides-eqb m n).0 e

encoding_code : (kind : ColType) (code : ℕ) (found : Encoding) → encoding_of kind code ≡ Some found → code ≡ code_of found
encoding_code kind code found e = elim (tested (eqb code 0) _ _ found e) [
  | inl a ↦ eqb-is code 0 a.0 ∙ known_is Plain found kind a.1
  | inr a ↦ elim (tested (eqb code 1) _ _ found a.1) [
    | inl b ↦ eqb-is code 1 b.0 ∙ known_is Constant found kind b.1
    | inr b ↦ elim (tested (eqb code 2) _ _ found b.1) [
      | inl c ↦ eqb-is code 2 c.0 ∙ known_is RunLength found kind c.1
      | inr c ↦ elim (tested (eqb code 3) _ _ found c.1) [
        | inl d ↦ eqb-is code 3 d.0 ∙ known_is Packed found kind d.1
        | inr d ↦ elim (tested (eqb code 4) _ _ found d.1) [
          | inl f ↦ eqb-is code 4 f.0 ∙ known_is Dictionary found kind f.1
          | inr f ↦ absurd cc
        ]
      ]
    ]
  ]
]

encoding_taken : (kind : ColType) (p : Place) (x : Encoding × Place) → IsBytes p.rest → encoding_at kind p ≡ Ok x → Takes p x.1 (code_of x.0 ∷ [])
unfolding encoding_at
encoding_taken kind p x fits e =
    let b = bind_ok (number_at w8 p) (λ code. or_fault p.at (encoding_of kind code.0) >>= λ encoding. ok_encoding (encoding, code.1)) x e in
    let n = b.0 in
    let t = number_takes w8 wide8 p n fits b.1 in
    let d = bind_ok (or_fault p.at (encoding_of kind n.0)) (λ encoding. ok_encoding (encoding, n.1)) x b.2 in
    let code : n.0 ≡ code_of d.0 = encoding_code kind n.0 d.0 (fault_none p.at (encoding_of kind n.0) d.0 d.1) in
    subst (λ (y : Encoding × Place). Takes p y.1 (code_of y.0 ∷ [])) (ok_is (d.0, n.1) x d.2)
    (subst (λ (k : ℕ). Takes p n.1 (k ∷ [])) (low_byte n.0 t.1 ∙ code) t.0)

flag_taken : (p : Place) (x : ℕ × Place) → IsBytes p.rest → flag_at p ≡ Ok x → Takes p x.1 (x.0 ∷ []) × (x.0 < 2)
unfolding flag_at
flag_taken p x fits e =
    let b = bind_ok (number_at w8 p) (λ flag. cond (ltb flag.0 2) (Ok flag) (Err p.at)) x e in
    let n = b.0 in
    let t = number_takes w8 wide8 p n fits b.1 in
    let g = chosen_ok (ltb n.0 2) p.at n x b.2 in
    subst (λ (y : ℕ × Place). Takes p y.1 (y.0 ∷ []) × (y.0 < 2)) g.1
    (subst (λ (k : ℕ). Takes p n.1 (k ∷ [])) (low_byte n.0 t.1) t.0, ltb-true n.0 2 g.0)

count_taken : (p : Place) (x : ℕ × Place) → IsBytes p.rest → count_at p ≡ Ok x → Takes p x.1 (to_le_bytes w32 x.0) × (1 ≤ x.0) × (x.0 ≤ 2048)
unfolding count_at
count_taken p x fits e =
    let b = bind_ok (number_at w32 p) (λ count. cond (leb 1 count.0 && leb count.0 2048) (Ok count) (Err p.at)) x e in
    let n = b.0 in
    let t = number_takes w32 wide32 p n fits b.1 in
    let g = chosen_ok (leb 1 n.0 && leb n.0 2048) p.at n x b.2 in
    let two = and_parts (leb 1 n.0) (leb n.0 2048) g.0 in
    subst (λ (y : ℕ × Place). Takes p y.1 (to_le_bytes w32 y.0) × (1 ≤ y.0) × (y.0 ≤ 2048)) g.1
    (t.0, leb-true 1 n.0 two.0, leb-true n.0 2048 two.1)

digits_fit : (n x : ℕ) → AllByRecursion (λ flag. flag < 2 ^ 1) (digits (2 ^ 1) n x)
digits_fit zero x = tt
digits_fit (suc n) x = (omega arith, digits_fit n (x / 2 ^ 1))

numbers_fit : (n : ℕ) (bytes flags : List ℕ) → numbers_in 1 n bytes ≡ Some flags → AllByRecursion (λ flag. flag < 2 ^ 1) flags
numbers_fit n bytes flags e = by_test (eqb (number 256 bytes / 2 ^ (1 * n)) 0) e
  where
    by_test : (b : Bool) → cond b (Some (digits (2 ^ 1) n (number 256 bytes))) None ≡ Some flags → AllByRecursion (λ flag. flag < 2 ^ 1) flags
    by_test true e = let same : digits (2 ^ 1) n (number 256 bytes) ≡ flags = cc in subst (λ (l : List ℕ). AllByRecursion (λ flag. flag < 2 ^ 1) l) same (digits_fit n (number 256 bytes))
    by_test false e = absurd cc

-- a mask that is read
record IsMask (n : ℕ) (old new : Place) (flags : List ℕ) : Type 0 where
  takes : Takes old new (packed 1 flags)
  total : length flags ≡ n
  fit : AllByRecursion (λ flag. flag < 2 ^ 1) flags
  null : list_any (λ flag. eqb flag 0) flags ≡ true

mask_some : (encoding : Encoding) (o : Option (List ℕ)) (flags : List ℕ) → mask_of encoding o ≡ Some flags → (o ≡ Some flags) × (list_any (λ flag. eqb flag 0) flags ≡ true)
mask_some encoding None flags e = absurd cc
mask_some encoding (Some l) flags e = by_test (list_any (λ flag. eqb flag 0) l) (is_plain encoding || list_any (λ flag. eqb flag 1) l) refl e
  where
    by_test : (a b : Bool) → list_any (λ flag. eqb flag 0) l ≡ a → cond (a && b) (Some l) None ≡ Some flags → (Some l ≡ Some flags) × (list_any (λ flag. eqb flag 0) flags ≡ true)
    by_test true true z e = let same : l ≡ flags = cc in (e, ap (list_any (λ flag. eqb flag 0)) (sym same) ∙ z)
    by_test true false z e = absurd cc
    by_test false b z e = absurd cc

flags_taken : (encoding : Encoding) (n : ℕ) (p : Place) (x : List ℕ × Place) → IsBytes p.rest → flags_at encoding n p ≡ Ok x → IsMask n p x.1 x.0
unfolding flags_at
flags_taken encoding n p x fits e =
    let b = bind_ok (bytes_at (byte_count (1 * n)) p) (λ bytes. or_fault p.at (mask_of encoding (numbers_in 1 n bytes.0)) >>= λ flags. ok_flags (flags, bytes.1)) x e in
    let bytes = b.0 in
    let t = bytes_takes (byte_count (1 * n)) p bytes fits b.1 in
    let d = bind_ok (or_fault p.at (mask_of encoding (numbers_in 1 n bytes.0))) (λ flags. ok_flags (flags, bytes.1)) x b.2 in
    let m = mask_some encoding (numbers_in 1 n bytes.0) d.0 (fault_none p.at (mask_of encoding (numbers_in 1 n bytes.0)) d.0 d.1) in
    let f = found_packed 1 n bytes.0 d.0 (bytes_front (byte_count (1 * n)) p bytes fits b.1) t.1 m.0 in
    subst (λ (y : List ℕ × Place). IsMask n p y.1 y.0) (ok_is (d.0, bytes.1) x d.2) (record {
      takes = subst (λ (l : List ℕ). Takes p bytes.1 l) (sym f.0) t.0;
      total = f.1;
      fit = numbers_fit n bytes.0 d.0 m.0;
      null = m.1;
    })

moved_ok : {A : Type 0} (n : ℕ) (r : Result A ℕ) (y : A) → moved n r ≡ Ok y → r ≡ Ok y
moved_ok n (Ok x) y e = e
moved_ok n (Err at) y e = absurd cc

unmasked_found : (encoding : Encoding) (kind : ColType) (n : ℕ) (bytes rest : List ℕ) (values : List Value) → IsBytes rest → length rest < 2 ^ 64 → 1 ≤ n → n ≤ 2048
    → bytes ≡ code_of encoding ∷ 0 ∷ (to_le_bytes w32 n ++ rest) → body_at encoding kind n rest ≡ Ok values → IsSegment kind encoding values bytes
unmasked_found encoding kind n bytes rest values fits small low high told e =
    let b = (body_codec encoding kind).takes n rest values fits small e in
    let all = plain_all_present kind values (holds_plain encoding kind values b.lawful) in
    let same = all_present values all in
    record {
      some = rw b.total low;
      few = rw b.total high;
      holds = subst (λ (vs : List Value). Holds encoding kind vs) (sym same) b.lawful;
      spelled = rw (all, same, b.total) (told ∙ ap (λ (l : List ℕ). code_of encoding ∷ 0 ∷ (to_le_bytes w32 n ++ l)) b.spelled);
    }

masked_found : (encoding : Encoding) (kind : ColType) (n : ℕ) (bytes flags rest : List ℕ) (values : List Value) → IsBytes rest → length rest < 2 ^ 64 → 1 ≤ n → n ≤ 2048
    → bytes ≡ code_of encoding ∷ 1 ∷ (to_le_bytes w32 n ++ (packed 1 flags ++ rest)) → length flags ≡ n → AllByRecursion (λ flag. flag < 2 ^ 1) flags → list_any (λ flag. eqb flag 0) flags ≡ true
    → body_at encoding kind (ones flags) rest ≡ Ok values → IsSegment kind encoding (with_nulls flags values) bytes
masked_found encoding kind n bytes flags rest values fits small low high told total fit null e =
    let b = (body_codec encoding kind).takes (ones flags) rest values fits small e in
    let all = with_nulls flags values in
    let made = made_of kind flags values fit (holds_plain encoding kind values b.lawful) (sym b.total) in
    let some : list_all is_present (with_nulls flags values) ≡ false = flag_null (with_nulls flags values) (ap (list_any (λ flag. eqb flag 0)) made.flags_told ∙ null) in
    let len : length (with_nulls flags values) ≡ n = sym (length-flags (with_nulls flags values)) ∙ ap length made.flags_told ∙ total in
    record {
      some = rw len low;
      few = rw len high;
      holds = subst (λ (vs : List Value). Holds encoding kind vs) (sym made.present_told) b.lawful;
      spelled = rw (some, made.flags_told, made.present_told, len) (told ∙ ap (λ (l : List ℕ). code_of encoding ∷ 1 ∷ (to_le_bytes w32 n ++ (packed 1 flags ++ l))) b.spelled);
    }

shorter : (whole front rest : List ℕ) → whole ≡ front ++ rest → length whole < 2 ^ 64 → length rest < 2 ^ 64
shorter whole front rest e small = omega (arith, simp length-append at (ap length e))

masked_taken : (encoding : Encoding) (kind : ColType) (n : ℕ) (bytes : List ℕ) (p : Place) (values : List Value) → IsBytes p.rest → length p.rest < 2 ^ 64 → 1 ≤ n → n ≤ 2048
    → bytes ≡ code_of encoding ∷ 1 ∷ (to_le_bytes w32 n ++ p.rest) → masked_at encoding kind n p ≡ Ok values → IsSegment kind encoding values bytes
unfolding masked_at
masked_taken encoding kind n bytes p values fits small low high told e =
    let b = bind_ok (flags_at encoding n p) (λ flags. moved flags.1.at (body_at encoding kind (ones flags.0) flags.1.rest) >>= λ present. ok_values (with_nulls flags.0 present)) values e in
    let flags = b.0 in
    let m = flags_taken encoding n p flags fits b.1 in
    let d = bind_ok (moved flags.1.at (body_at encoding kind (ones flags.0) flags.1.rest)) (λ present. ok_values (with_nulls flags.0 present)) values b.2 in
    subst (λ (vs : List Value). IsSegment kind encoding vs bytes) (ok_is (with_nulls flags.0 d.0) values d.2)
    (masked_found encoding kind n bytes flags.0 flags.1.rest d.0 m.takes.left (shorter p.rest (packed 1 flags.0) flags.1.rest m.takes.passes.rest small) low high
    (told ∙ ap (λ (l : List ℕ). code_of encoding ∷ 1 ∷ (to_le_bytes w32 n ++ l)) m.takes.passes.rest) m.total m.fit m.null
    (moved_ok flags.1.at (body_at encoding kind (ones flags.0) flags.1.rest) d.0 d.1))

values_taken : (encoding : Encoding) (kind : ColType) (flag n : ℕ) (bytes : List ℕ) (p : Place) (values : List Value) → IsBytes p.rest → length p.rest < 2 ^ 64 → flag < 2 → 1 ≤ n → n ≤ 2048
    → bytes ≡ code_of encoding ∷ flag ∷ (to_le_bytes w32 n ++ p.rest) → values_at encoding kind flag (n, p) ≡ Ok values → IsSegment kind encoding values bytes
values_taken encoding kind zero n bytes p values fits small lt low high told e = unmasked_found encoding kind n bytes p.rest values fits small low high told (moved_ok p.at (body_at encoding kind n p.rest) values e)
values_taken encoding kind (suc zero) n bytes p values fits small lt low high told e = masked_taken encoding kind n bytes p values fits small low high told e
values_taken encoding kind (suc (suc f)) n bytes p values fits small lt low high told e = absurd (omega arith)

pub segment_found : (kind : ColType) (bytes : List ℕ) (values : List Value) → IsBytes bytes → length bytes < 2 ^ 64 → segment_at kind bytes ≡ Ok values → (encoding : Encoding) × IsSegment kind encoding values bytes
unfolding segment_at
segment_found kind bytes values fits small e =
    let a = bind_ok (encoding_at kind (start bytes)) (λ encoding. flag_at encoding.1 >>= λ flag. count_at flag.1 >>= λ count. values_at encoding.0 kind flag.0 count) values e in
    let encoding = a.0 in
    let t = encoding_taken kind (start bytes) encoding fits a.1 in
    let b = bind_ok (flag_at encoding.1) (λ flag. count_at flag.1 >>= λ count. values_at encoding.0 kind flag.0 count) values a.2 in
    let flag = b.0 in
    let u = flag_taken encoding.1 flag t.left b.1 in
    let d = bind_ok (count_at flag.1) (λ count. values_at encoding.0 kind flag.0 count) values b.2 in
    let count = d.0 in
    let v = count_taken flag.1 count u.0.left d.1 in
    let told : bytes ≡ code_of encoding.0 ∷ flag.0 ∷ (to_le_bytes w32 count.0 ++ count.1.rest)
    = t.passes.rest ∙ ap (λ (l : List ℕ). code_of encoding.0 ∷ l) (u.0.passes.rest ∙ ap (λ (l : List ℕ). flag.0 ∷ l) v.0.passes.rest) in
    (encoding.0, values_taken encoding.0 kind flag.0 count.0 bytes count.1 values v.0.left (shorter bytes (code_of encoding.0 ∷ flag.0 ∷ to_le_bytes w32 count.0) count.1.rest told small) u.1 v.1 v.2 told d.2)
