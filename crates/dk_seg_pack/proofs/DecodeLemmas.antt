-- Exactly the bodies are read, each as its values.
use Rattle.std.proofs.Common.{◌≡◌, ℕ, ◌+◌, ◌-◌, ◌*◌, ◌<◌, ◌≤◌, ◌^◌, Bool, true, false, ◌||◌, ◌&&◌, ◌==◌, not, cond, ltb, fold, max, map, List, [], ◌∷◌, ◌++◌, length, Option, Some, None, Ok, Err, refl, ap, sym, ◌∙◌, subst, arith, append-nil, append_assoc}
use Rattle.dk_bytes.specs.Bodies.{IsCodec}
use Rattle.dk_bytes.proofs.PackingLemmas.{found_packed, packed_again}
use Rattle.std.specs.List.{AllByRecursion}
use Rattle.std.specs.Int.{w8, w64, to_le_bytes}
use Rattle.std.proofs.lemmas.Bool.{eq-eqb, eqb-true, ne_eqb, le-ltb, and_parts, and_from, or_parts}
use Rattle.dk_values.specs.declared.value.ColType.{ColType}
use Rattle.dk_values.specs.declared.value.ColType.TheVariants as types
use Rattle.dk_values.specs.declared.value.Value.{Value}
use Rattle.dk_bytes.specs.Fields.{IsBytes, Place, bytes_at, number_at}
use Rattle.dk_bytes.specs.Reading.{◌>>=◌, start, whole, or_fault, IsBody}
use Rattle.dk_bytes.specs.PlainValue.{IsPlain}
use Rattle.dk_bytes.proofs.NumberLemmas.{Takes, Takes-then, bind_ok, bind_at, guard_ok, low_byte, wide8, wide64, bytes_takes, bytes_again, number_takes, number_again, done, ok_is, bytes_front, fault_none, passed_ok, some_items}
use Rattle.dk_bytes.proofs.OutcomeLemmas.{whole_at, whole_ok}
use Rattle.dk_bytes.specs.Bits.{bit_width, byte_count, packed, numbers_in}
use Rattle.dk_seg_pack.specs.Packed.{rank_of, least, greatest, width_of, differences, half_turned, packed_bytes, IsNumeric, IsPacked, is_numeric, values_of, values_above, differences_at, numbers_at, packed_at}
use Rattle.dk_bytes.proofs.DigitLemmas.{length-digits}
use Rattle.dk_bytes.proofs.WidthLemmas.{width_fits, width_most}
use Rattle.dk_seg_pack.proofs.BodyLemmas.{differences_fit, map_length}
use Rattle.dk_seg_pack.proofs.RankLemmas.{turned_twice, turned_below}
use Rattle.dk_seg_pack.proofs.RoundTripLemmas.{has_zero, least_occurs, greatest_difference, values_again, ranks_below, taken_above, least_64, base_least, moved_back}

-- ---- what was written is read again

numeric_test : (kind : ColType) → IsNumeric kind → is_numeric kind ≡ true
numeric_test types.Bool h = refl
numeric_test types.Int h = refl
numeric_test types.Big h = refl
numeric_test types.Text h = absurd h

max_below : (bound m : ℕ) (xs : List ℕ) → m < bound → AllByRecursion (λ x. x < bound) xs → fold max m xs < bound
max_below bound m [] h all = h
max_below bound m (x ∷ xs) h all = max_below bound (max m x) xs (omega (arith, all.0)) all.1

top_below : (ranks : List ℕ) → AllByRecursion (λ r. r < 2 ^ 64) ranks → greatest ranks - least ranks < 2 ^ 64
top_below ranks h = omega (arith, max_below (2 ^ 64) 0 ranks (omega arith) h)

-- the differences of a body stand for its values
values_back : (kind : ColType) (values : List Value) → IsPacked kind values → values_of kind (least (map rank_of values)) (width_of (map rank_of values)) (Some (differences (map rank_of values))) ≡ Some values
values_back kind values h =
    let ranks : List ℕ = map rank_of values in
    let below = ranks_below kind values h.numeric h.plain in
    let zero_there = least_occurs ranks (omega (arith, h.some, map_length rank_of values)) below in
    let width_is : (bit_width (greatest (differences ranks)) == width_of ranks) ≡ true = eq-eqb _ _ (ap bit_width (greatest_difference ranks)) in
    rw (and_from _ _ zero_there width_is) (values_again kind values h.numeric h.plain)

differences_again : (kind : ColType) (count base width at : ℕ) (text ds : List ℕ) (values : List Value) → length text ≡ byte_count (width * count) → numbers_in width count text ≡ Some ds → values_of kind base width (Some ds) ≡ Some values
    → differences_at kind count base width (record { at = at; rest = text }) ≡ Ok (values, record { at = at + length text; rest = [] })
unfolding differences_at
differences_again kind count base width at text ds values len found e =
    let P : ℕ → List ℕ → Type 0 = λ n rest. bytes_at n (record { at = at; rest = rest }) ≡ Ok (text, record { at = at + length text; rest = [] }) in
    let all : P (byte_count (width * count)) text =
    subst (λ (n : ℕ). P n text) len (subst (λ (rest : List ℕ). P (length text) rest) (append-nil text) (bytes_again text [] at)) in
    bind_at _ _ (text, record { at = at + length text; rest = [] }) _ all
    (bind_at _ _ values _ (ap (λ (o : Option (List Value)). or_fault at o) (ap (λ (o : Option (List ℕ)). values_of kind base width o) found ∙ e)) refl)

guard_at : {A : Type 0} (b : Bool) (d : ℕ) (x : A) → b ≡ false → cond b (Err d) (done x) ≡ Ok x
guard_at true d x e = absurd cc
guard_at false d x e = refl

numbers_again : (kind : ColType) (count least_bits width : ℕ) (text ds : List ℕ) (values : List Value) → least_bits < 2 ^ 64 → width ≤ 64 → length text ≡ byte_count (width * count) → numbers_in width count text ≡ Some ds → values_of kind (half_turned least_bits) width (Some ds) ≡ Some values
    → numbers_at kind count (start (to_le_bytes w64 least_bits ++ (width ∷ text))) ≡ Ok (values, record { at = 9 + length text; rest = [] })
unfolding numbers_at
numbers_again kind count least_bits width text ds values fits most len found e =
    let P : ℕ → Type 0 = λ w. number_at w8 (record { at = 8; rest = w ∷ text }) ≡ Ok (width, record { at = 9; rest = text }) in
    let width_is : P width = subst P (low_byte width (omega arith)) (number_again w8 wide8 width text 8 (omega arith)) in
    let fitting : ltb 64 width ≡ false = le-ltb 64 width most in
    bind_at {A = ℕ × Place} _ _ (least_bits, record { at = 8; rest = width ∷ text }) _ (number_again w64 wide64 least_bits (width ∷ text) 0 fits)
    (bind_at {A = ℕ × Place} _ _ (width, record { at = 9; rest = text }) _ width_is
    (bind_at {A = ℕ × Place} _ _ (width, record { at = 9; rest = text }) _ (guard_at (ltb 64 width) 8 (width, record { at = 9; rest = text }) fitting)
    (differences_again kind count (half_turned least_bits) width 9 text ds values len found e)))

body_again : (kind : ColType) (values : List Value) → IsPacked kind values → packed_at kind (length values) (packed_bytes values) ≡ Ok values
unfolding packed_at
body_again kind values h =
    let ranks : List ℕ = map rank_of values in
    let width : ℕ = width_of ranks in
    let below = ranks_below kind values h.numeric h.plain in
    let same_len : length (differences ranks) ≡ length values = map_length (λ r. r - least ranks) ranks ∙ map_length rank_of values in
    let found : numbers_in width (length values) (packed width (differences ranks)) ≡ Some (differences ranks) =
    subst (λ (n : ℕ). numbers_in width n (packed width (differences ranks)) ≡ Some (differences ranks)) same_len
    (packed_again width (differences ranks) (differences_fit ranks width (width_fits (greatest ranks - least ranks) (top_below ranks below)))) in
    let len : length (packed width (differences ranks)) ≡ byte_count (width * length values) =
    length-digits 256 _ _ ∙ ap (λ (n : ℕ). byte_count (width * n)) same_len in
    let turned : half_turned (half_turned (least ranks)) ≡ least ranks = turned_twice (least ranks) (least_64 ranks) in
    let e : values_of kind (half_turned (half_turned (least ranks))) width (Some (differences ranks)) ≡ Some values =
    subst (λ (b : ℕ). values_of kind b width (Some (differences ranks)) ≡ Some values) (sym turned) (values_back kind values h) in
    let read = numbers_again kind (length values) (half_turned (least ranks)) width (packed width (differences ranks)) (differences ranks) values (turned_below (least ranks)) (width_most _) len found e in
    let some : (length values == 0) ≡ false = ne_eqb _ _ (λ z. omega (arith, h.some)) in
    rw (some, numeric_test kind h.numeric) (whole_at (numbers_at kind (length values) (start (packed_bytes values))) values _ read)

-- ---- what was read is what is written

numeric_fact : (kind : ColType) → not (is_numeric kind) ≡ false → IsNumeric kind
numeric_fact types.Bool e = tt
numeric_fact types.Int e = tt
numeric_fact types.Big e = tt
numeric_fact types.Text e = absurd cc

passed_some : {A : Type 0} (b : Bool) (o : Option A) (y : A) → cond b o None ≡ Some y → (b ≡ true) × (o ≡ Some y)
passed_some true o y e = (refl, e)
passed_some false o y e = absurd cc

-- the differences that were read, from which bytes, and for which values
record IsTaken (kind : ColType) (count base width : ℕ) (text : List ℕ) (values : List Value) : Type 0 where
  ds : List ℕ
  found : numbers_in width count text ≡ Some ds
  zero_there : has_zero ds ≡ true
  width_is : bit_width (greatest ds) ≡ width
  above : values_above kind base ds ≡ Some values

values_taken : (kind : ColType) (count base width : ℕ) (text : List ℕ) (found : Option (List ℕ)) (values : List Value) → numbers_in width count text ≡ found → values_of kind base width found ≡ Some values → IsTaken kind count base width text values
values_taken kind count base width text None values f e = absurd cc
values_taken kind count base width text (Some ds) values f e =
    let c = passed_some (has_zero ds && (bit_width (greatest ds) == width)) (values_above kind base ds) values e in
    let t = and_parts (has_zero ds) (bit_width (greatest ds) == width) c.0 in
    record { ds = ds; found = f; zero_there = t.0; width_is = eqb-true _ _ t.1; above = c.1 }

-- what was read from the packed bytes on
record Differences (kind : ColType) (count base width : ℕ) (old new : Place) (values : List Value) : Type 0 where
  text : List ℕ
  fits : IsBytes text
  len : length text ≡ byte_count (width * count)
  takes : Takes old new text
  taken : IsTaken kind count base width text values

differences_taken : (kind : ColType) (count base width : ℕ) (p : Place) (x : List Value × Place) → IsBytes p.rest → differences_at kind count base width p ≡ Ok x → Differences kind count base width p x.1 x.0
unfolding differences_at
differences_taken kind count base width p x fits e =
    let n : ℕ = byte_count (width * count) in
    let b = bind_ok (bytes_at n p) (λ bytes. or_fault p.at (values_of kind base width (numbers_in width count bytes.0)) >>= λ values. done (values, bytes.1)) x e in
    let bytes = b.0 in
    let t = bytes_takes n p bytes fits b.1 in
    let d = bind_ok (or_fault p.at (values_of kind base width (numbers_in width count bytes.0))) (λ values. done (values, bytes.1)) x b.2 in
    let v = values_taken kind count base width bytes.0 (numbers_in width count bytes.0) d.0 refl (fault_none p.at _ d.0 d.1) in
    subst (λ (y : List Value × Place). Differences kind count base width p y.1 y.0) (ok_is (d.0, bytes.1) x d.2)
    (record { text = bytes.0; fits = bytes_front n p bytes fits b.1; len = t.1; takes = t.0; taken = v })

-- what was read from the least number on
record Numbers (kind : ColType) (count : ℕ) (old new : Place) (values : List Value) : Type 0 where
  base : ℕ
  width : ℕ
  below : base < 2 ^ 64
  middle : Place
  front : Takes old middle (to_le_bytes w64 base ++ (width ∷ []))
  rest : Differences kind count (half_turned base) width middle new values

numbers_taken : (kind : ColType) (count : ℕ) (p : Place) (x : List Value × Place) → IsBytes p.rest → numbers_at kind count p ≡ Ok x → Numbers kind count p x.1 x.0
unfolding numbers_at
numbers_taken kind count p x fits e =
    let b = bind_ok (number_at w64 p) (λ base. number_at w8 base.1 >>= λ width. cond (ltb 64 width.0) (Err base.1.at) (Ok width) >>= λ fitting. differences_at kind count (half_turned base.0) fitting.0 fitting.1) x e in
    let base = b.0 in
    let t = number_takes w64 wide64 p base fits b.1 in
    let d = bind_ok (number_at w8 base.1) (λ width. cond (ltb 64 width.0) (Err base.1.at) (Ok width) >>= λ fitting. differences_at kind count (half_turned base.0) fitting.0 fitting.1) x b.2 in
    let width = d.0 in
    let u = number_takes w8 wide8 base.1 width t.0.left d.1 in
    let g = bind_ok (cond (ltb 64 width.0) (Err base.1.at) (Ok width)) (λ fitting. differences_at kind count (half_turned base.0) fitting.0 fitting.1) x d.2 in
    let same = guard_ok (ltb 64 width.0) base.1.at width g.0 g.1 in
    let read : differences_at kind count (half_turned base.0) width.0 width.1 ≡ Ok x =
    subst (λ (w : ℕ × Place). differences_at kind count (half_turned base.0) w.0 w.1 ≡ Ok x) (sym same.1) g.2 in
    let width_bytes : Takes base.1 width.1 (width.0 ∷ []) = subst (λ (k : ℕ). Takes base.1 width.1 (k ∷ [])) (low_byte width.0 u.1) u.0 in
    record {
      base = base.0;
      width = width.0;
      below = t.1;
      middle = width.1;
      front = Takes-then p base.1 width.1 (to_le_bytes w64 base.0) (width.0 ∷ []) t.0 width_bytes;
      rest = differences_taken kind count (half_turned base.0) width.0 width.1 x u.0.left read;
    }

-- the parts of a body are those that its values have
parts_are : (kind : ColType) (count base width : ℕ) (text : List ℕ) (values : List Value) → base < 2 ^ 64 → IsBytes text → length text ≡ byte_count (width * count) → IsTaken kind count base width text values
    → (length values ≡ count) × AllByRecursion (IsPlain kind) values × (least (map rank_of values) ≡ base) × (width_of (map rank_of values) ≡ width) × (packed width (differences (map rank_of values)) ≡ text)
parts_are kind count base width text values below fits len t =
    let ranks : List ℕ = map rank_of values in
    let above = taken_above kind base t.ds values t.above in
    let f = found_packed width count text t.ds fits len t.found in
    let least_is : least ranks ≡ base = ap least above.ranks ∙ base_least base t.ds below t.zero_there in
    let same : differences ranks ≡ t.ds =
    ap (λ (b : ℕ). map (λ r. r - b) ranks) least_is ∙ ap (λ (rs : List ℕ). map (λ r. r - base) rs) above.ranks ∙ moved_back base t.ds in
    let width_same : width_of ranks ≡ width = ap bit_width (sym (greatest_difference ranks) ∙ ap greatest same) ∙ t.width_is in
    let count_same : length values ≡ count = sym (map_length rank_of values) ∙ ap length above.ranks ∙ map_length (λ d. base + d) t.ds ∙ f.1 in
    (count_same, above.plain, least_is, width_same, ap (packed width) same ∙ f.0)

body_taken : (kind : ColType) (count : ℕ) (bytes : List ℕ) (values : List Value) → IsBytes bytes → packed_at kind count bytes ≡ Ok values
    → IsBody (IsPacked kind) packed_bytes count bytes values
unfolding packed_at
body_taken kind count bytes values fits e =
    let p = passed_ok ((count == 0) || not (is_numeric kind)) 0 (whole (numbers_at kind count (start bytes))) values e in
    let tests = or_parts (count == 0) (not (is_numeric kind)) p.0 in
    let w = whole_ok (numbers_at kind count (start bytes)) values p.1 in
    let n = numbers_taken kind count (start bytes) (values, w.behind) fits w.told in
    let d = n.rest in
    let q = parts_are kind count (half_turned n.base) n.width d.text values (turned_below n.base) d.fits d.len d.taken in
    let all = Takes-then (start bytes) n.middle w.behind (to_le_bytes w64 n.base ++ (n.width ∷ [])) d.text n.front d.takes in
    let spelled : bytes ≡ (to_le_bytes w64 n.base ++ (n.width ∷ [])) ++ d.text = all.passes.rest ∙ ap (λ (rest : List ℕ). ((to_le_bytes w64 n.base ++ (n.width ∷ [])) ++ d.text) ++ rest) w.used ∙ append-nil _ in
    let base_is : half_turned (least (map rank_of values)) ≡ n.base = ap half_turned q.2 ∙ turned_twice n.base n.below in
    let body : packed_bytes values ≡ to_le_bytes w64 n.base ++ (n.width ∷ d.text) =
    ap (λ (k : ℕ). to_le_bytes w64 k ++ (width_of (map rank_of values) ∷ packed (width_of (map rank_of values)) (differences (map rank_of values)))) base_is
    ∙ ap (λ (w : ℕ). to_le_bytes w64 n.base ++ (w ∷ packed w (differences (map rank_of values)))) q.3
    ∙ ap (λ (rest : List ℕ). to_le_bytes w64 n.base ++ (n.width ∷ rest)) q.4 in
    let some : 0 < length values = some_items count (length values) q.0 tests.0 in
    record {
      total = q.0;
      lawful = record { numeric = numeric_fact kind tests.1; some = some; plain = q.1 };
      spelled = spelled ∙ append_assoc (to_le_bytes w64 n.base) (n.width ∷ []) d.text ∙ sym body;
    }

pub packed_codec : (kind : ColType) → IsCodec (packed_at kind) (IsPacked kind) packed_bytes
packed_codec kind = record { takes = λ count bytes values fits small e. body_taken kind count bytes values fits e; again = body_again kind }
