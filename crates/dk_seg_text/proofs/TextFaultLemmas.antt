-- A fault of a plain body or of a dictionary stands at most at the body's length.
use Rattle.std.proofs.Common.{ℕ, zero, suc, ◌*◌, ◌≤◌, ◌||◌, ◌==◌, not, cond, eqb, List, [], ◌∷◌, ◌++◌, length, Ok, Err, arith}
use Rattle.std.specs.Int.{w8, w16}
use Rattle.dk_values.specs.declared.value.ColType.{ColType}
use Rattle.dk_values.specs.declared.value.ColType.TheVariants as types
use Rattle.dk_values.specs.declared.value.Value.{Value}
use Rattle.dk_bytes.specs.Fields.{Place, bytes_at, number_at}
use Rattle.dk_bytes.specs.PlainValue.{text_at, value_at}
use Rattle.dk_bytes.specs.Reading.{start, whole, or_fault}
use Rattle.dk_bytes.proofs.FaultPlaceLemmas.{end_of, FailsBy, Within, Inside, bind_bounded, chosen_bounded, guard_bounded, bytes_within, number_within, value_within, whole_bounded, fault_bounded}
use Rattle.dk_bytes.specs.Bits.{byte_count, numbers_in}
use Rattle.dk_seg_text.specs.Plain.{values_at, plain_at}
use Rattle.dk_seg_text.specs.Dictionary.{text_of, is_entry, code_width, texts_with, entry_at, entries_at, codes_at, width_at, texts_at, is_text, dictionary_at}

values_within : (end : ℕ) (kind : ColType) (n : ℕ) (p : Place) → end_of p ≤ end → Within end (values_at kind n p)
values_within end kind zero p h = h
values_within end kind (suc n) p h =
    bind_bounded end (Inside {A = Value} end) (Inside {A = List Value} end) (value_at kind p) _ (value_within end kind p h)
    (λ value k. bind_bounded end (Inside {A = List Value} end) (Inside {A = List Value} end) (values_at kind n value.1) _ (values_within end kind n value.1 k)
    (λ others l. l))

pub plain_within : (kind : ColType) (count : ℕ) (bytes : List ℕ) → FailsBy (length bytes) (plain_at kind count bytes)
plain_within kind count bytes = whole_bounded (length bytes) (values_at kind count (start bytes)) (values_within (length bytes) kind count (start bytes) (omega arith))

entry_within : (end : ℕ) (entries : List (List ℕ)) (p : Place) → end_of p ≤ end → Within end (entry_at entries p)
unfolding entry_at
entry_within end entries p h =
    bind_bounded end (Inside {A = Value} end) (Inside {A = List (List ℕ)} end) (text_at p) _ (value_within end types.Text p h)
    (λ text k. guard_bounded end (Inside {A = List (List ℕ)} end) (is_entry entries (text_of text.0)) (Ok (entries ++ text_of text.0 ∷ [], text.1)) p.at k (omega arith))

entries_within : (end n : ℕ) (entries : List (List ℕ)) (p : Place) → end_of p ≤ end → Within end (entries_at n entries p)
entries_within end zero entries p h = h
entries_within end (suc n) entries p h =
    bind_bounded end (Inside {A = List (List ℕ)} end) (Inside {A = List (List ℕ)} end) (entry_at entries p) _ (entry_within end entries p h)
    (λ more k. entries_within end n more.0 more.1 k)

codes_within : (end : ℕ) (entries : List (List ℕ)) (width count : ℕ) (p : Place) → end_of p ≤ end → Within end (codes_at entries width count p)
unfolding codes_at
codes_within end entries width count p h =
    bind_bounded end (Inside {A = List ℕ} end) (Inside {A = List Value} end) (bytes_at (byte_count (width * count)) p) _ (bytes_within end (byte_count (width * count)) p h)
    (λ bytes k. bind_bounded end (λ (_ : List Value). Unit {0}) (Inside {A = List Value} end) (or_fault p.at (texts_with entries (numbers_in width count bytes.0))) _
    (fault_bounded end p.at (texts_with entries (numbers_in width count bytes.0)) (omega arith)) (λ texts l. k))

width_within : (end : ℕ) (entries : List (List ℕ)) (count : ℕ) (p : Place) → end_of p ≤ end → Within end (width_at entries count p)
unfolding width_at
width_within end entries count p h =
    bind_bounded end (Inside {A = ℕ} end) (Inside {A = List Value} end) (number_at w8 p) _ (number_within end w8 p h)
    (λ width k. bind_bounded end (Inside {A = ℕ} end) (Inside {A = List Value} end) (cond (eqb width.0 (code_width (length entries))) (Ok width) (Err p.at)) _
    (chosen_bounded end (Inside {A = ℕ} end) (eqb width.0 (code_width (length entries))) (Ok width) p.at k (omega arith))
    (λ fitting l. codes_within end entries fitting.0 count fitting.1 l))

texts_within : (end count : ℕ) (p : Place) → end_of p ≤ end → Within end (texts_at count p)
unfolding texts_at
texts_within end count p h =
    bind_bounded end (Inside {A = ℕ} end) (Inside {A = List Value} end) (number_at w16 p) _ (number_within end w16 p h)
    (λ n k. bind_bounded end (Inside {A = ℕ} end) (Inside {A = List Value} end) (cond (eqb n.0 0) (Err p.at) (Ok n)) _
    (guard_bounded end (Inside {A = ℕ} end) (eqb n.0 0) (Ok n) p.at k (omega arith))
    (λ some l. bind_bounded end (Inside {A = List (List ℕ)} end) (Inside {A = List Value} end) (entries_at some.0 [] some.1) _ (entries_within end some.0 [] some.1 l)
    (λ entries m. width_within end entries.0 count entries.1 m)))

pub dictionary_within : (kind : ColType) (count : ℕ) (bytes : List ℕ) → FailsBy (length bytes) (dictionary_at kind count bytes)
unfolding dictionary_at
dictionary_within kind count bytes =
    guard_bounded (length bytes) (λ (_ : List Value). Unit {0}) ((count == 0) || not (is_text kind)) (whole (texts_at count (start bytes))) 0
    (whole_bounded (length bytes) (texts_at count (start bytes)) (texts_within (length bytes) count (start bytes) (omega arith)))
    (omega arith)
