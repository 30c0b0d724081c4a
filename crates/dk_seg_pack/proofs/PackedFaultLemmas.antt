-- A fault of a body of packed numbers stands at most at the body's length.
use Rattle.std.proofs.Common.{ℕ, ◌*◌, ◌≤◌, ◌||◌, ◌==◌, not, ltb, cond, List, length, Ok, Err, arith}
use Rattle.std.specs.Int.{w8, w64}
use Rattle.dk_values.specs.declared.value.ColType.{ColType}
use Rattle.dk_values.specs.declared.value.Value.{Value}
use Rattle.dk_bytes.specs.Fields.{Place, bytes_at, number_at}
use Rattle.dk_bytes.specs.Reading.{start, whole, or_fault}
use Rattle.dk_bytes.proofs.FaultPlaceLemmas.{end_of, FailsBy, Within, Inside, bind_bounded, guard_bounded, bytes_within, number_within, whole_bounded, fault_bounded}
use Rattle.dk_bytes.specs.Bits.{byte_count, numbers_in}
use Rattle.dk_seg_pack.specs.Packed.{is_numeric, half_turned, values_of, differences_at, numbers_at, packed_at}

differences_within : (end : ℕ) (kind : ColType) (count base width : ℕ) (p : Place) → end_of p ≤ end → Within end (differences_at kind count base width p)
unfolding differences_at
differences_within end kind count base width p h =
    bind_bounded end (Inside end) (Inside end) (bytes_at (byte_count (width * count)) p) _ (bytes_within end (byte_count (width * count)) p h)
    (λ bytes k. bind_bounded end (λ (_ : List Value). Unit {0}) (Inside {A = List Value} end) (or_fault p.at (values_of kind base width (numbers_in width count bytes.0))) _
    (fault_bounded end p.at (values_of kind base width (numbers_in width count bytes.0)) (omega arith)) (λ values l. k))

numbers_within : (end : ℕ) (kind : ColType) (count : ℕ) (p : Place) → end_of p ≤ end → Within end (numbers_at kind count p)
unfolding numbers_at
numbers_within end kind count p h =
    bind_bounded end (Inside end) (Inside end) (number_at w64 p) _ (number_within end w64 p h)
    (λ base k. bind_bounded end (Inside end) (Inside end) (number_at w8 base.1) _ (number_within end w8 base.1 k)
    (λ width l. bind_bounded end (Inside {A = ℕ} end) (Inside {A = List Value} end) (cond (ltb 64 width.0) (Err base.1.at) (Ok width)) _ (guard_bounded end (Inside {A = ℕ} end) (ltb 64 width.0) (Ok width) base.1.at l (omega arith))
    (λ fitting m. differences_within end kind count (half_turned base.0) fitting.0 fitting.1 m)))

pub packed_within : (kind : ColType) (count : ℕ) (bytes : List ℕ) → FailsBy (length bytes) (packed_at kind count bytes)
unfolding packed_at
packed_within kind count bytes =
    guard_bounded (length bytes) (λ (_ : List Value). Unit {0}) ((count == 0) || not (is_numeric kind)) (whole (numbers_at kind count (start bytes))) 0
    (whole_bounded (length bytes) (numbers_at kind count (start bytes)) (numbers_within (length bytes) kind count (start bytes) (omega arith)))
    (omega arith)
