-- What holds of the body of every encoding.
use Rattle.std.proofs.Common.{◌≡◌, ℕ, zero, suc, ◌<◌, ◌≤◌, true, false, List, [], ◌∷◌, ◌++◌, length, Result, Ok, Err, refl, sym, subst, arith, replicate}
use Rattle.std.specs.List.{AllByRecursion}
use Rattle.dk_values.specs.declared.value.ColType.{ColType}
use Rattle.dk_values.specs.declared.value.ColType.TheVariants as types
use Rattle.dk_values.specs.declared.value.Value.{Value}
use Rattle.dk_bytes.specs.PlainValue.{IsPlain}
use Rattle.dk_seg_run.specs.declared.run_length.Run.{Run}
use Rattle.dk_seg_run.specs.RunLength.{IsRun, runs_of, expanded}
use Rattle.dk_seg_run.proofs.RunLemmas.{expanded-runs_of}
use Rattle.dk_seg_run.proofs.ConstantLemmas.{constant_codec}
use Rattle.dk_seg_run.proofs.RunBodyLemmas.{run_length_codec}
use Rattle.dk_seg_pack.proofs.DecodeLemmas.{packed_codec}
use Rattle.dk_seg_text.proofs.ValueLemmas.{plain_codec}
use Rattle.dk_seg_text.proofs.RoundTripLemmas.{dictionary_codec}
use Rattle.dk_bytes.specs.Bodies.{IsCodec}
use Rattle.std.specs.Prelude.{IfErr}
use Rattle.dk_bytes.specs.declared.field_error.FieldError.{FieldError}
use Rattle.dk_bytes.specs.declared.field_error.FieldError.TheVariants.{Malformed}
use Rattle.dk_bytes.specs.Reading.{FailsAt, Gives}
use Rattle.dk_bytes.proofs.FaultPlaceLemmas.{FailsBy}
use Rattle.dk_seg_run.proofs.RunFaultLemmas.{constant_within, runs_within_body}
use Rattle.dk_seg_pack.proofs.PackedFaultLemmas.{packed_within}
use Rattle.dk_seg_text.proofs.TextFaultLemmas.{plain_within, dictionary_within}
use Rattle.dk_segment.specs.declared.encoding.Encoding.{Encoding}
use Rattle.dk_segment.specs.declared.encoding.Encoding.TheVariants.{Constant, RunLength, Packed, Dictionary, Plain}
use Rattle.dk_segment.specs.Bodies.{Holds, body_of, body_at, goes_with, is_plain}

-- the reading of each body
pub body_codec : (encoding : Encoding) (kind : ColType) → IsCodec (body_at encoding kind) (Holds encoding kind) (body_of encoding)
body_codec Constant kind = constant_codec kind
body_codec RunLength kind = run_length_codec kind
body_codec Packed kind = packed_codec kind
body_codec Dictionary kind = dictionary_codec kind
body_codec Plain kind = plain_codec kind

-- a fault stands at most at the body's end
body_within : (encoding : Encoding) (kind : ColType) (count : ℕ) (bytes : List ℕ) → FailsBy (length bytes) (body_at encoding kind count bytes)
body_within Constant kind count bytes = constant_within kind count bytes
body_within RunLength kind count bytes = runs_within_body kind count bytes
body_within Packed kind count bytes = packed_within kind count bytes
body_within Dictionary kind count bytes = dictionary_within kind count bytes
body_within Plain kind count bytes = plain_within kind count bytes

fault_by : {A : Type 0} (end at : ℕ) (reading : Result A ℕ) → FailsBy end reading → reading ≡ Err at → at ≤ end
fault_by {A} end at reading h e = let P : Result A ℕ → Type 0 = λ r. FailsBy end r in subst P e h

pub place_within : {X : Type 0} (view : X → List Value) (result : Result X FieldError) (encoding : Encoding) (kind : ColType) (count : ℕ) (bytes : List ℕ) → Gives view result (body_at encoding kind count bytes)
    → IfErr result (λ e. (at : ℕ) → e ≡ Malformed at → at ≤ length bytes)
place_within view (Ok x) encoding kind count bytes g = tt
place_within view (Err e) encoding kind count bytes g = λ at is.
    fault_by (length bytes) at (body_at encoding kind count bytes) (body_within encoding kind count bytes) (subst (λ (f : FieldError). FailsAt f (body_at encoding kind count bytes)) is g)

-- ---- the values that are held

all_same : (kind : ColType) (value : Value) (values : List Value) → IsPlain kind value → AllByRecursion (λ other. other ≡ value) values → AllByRecursion (IsPlain kind) values
all_same kind value [] p h = tt
all_same kind value (v ∷ vs) p h = (subst (λ (u : Value). IsPlain kind u) (sym h.0) p, all_same kind value vs p h.1)

constant_plain : (kind : ColType) (values : List Value) → Holds Constant kind values → AllByRecursion (IsPlain kind) values
constant_plain kind [] h = absurd h
constant_plain kind (v ∷ vs) h = (h.0, all_same kind v vs h.0 h.1)

copies_plain : (kind : ColType) (n : ℕ) (value : Value) (others : List Value) → IsPlain kind value → AllByRecursion (IsPlain kind) others → AllByRecursion (IsPlain kind) (replicate n value ++ others)
copies_plain kind zero value others p h = h
copies_plain kind (suc n) value others p h = (p, copies_plain kind n value others p h)

expanded_plain : (kind : ColType) (rs : List Run) → AllByRecursion (IsRun kind) rs → AllByRecursion (IsPlain kind) (expanded rs)
expanded_plain kind [] h = tt
expanded_plain kind (r ∷ rs) h = copies_plain kind r.count r.value (expanded rs) h.0.plain (expanded_plain kind rs h.1)

pub holds_plain : (encoding : Encoding) (kind : ColType) (values : List Value) → Holds encoding kind values → AllByRecursion (IsPlain kind) values
holds_plain Constant kind values h = constant_plain kind values h
holds_plain RunLength kind values h = subst (λ (vs : List Value). AllByRecursion (IsPlain kind) vs) (expanded-runs_of values) (expanded_plain kind (runs_of values) h.runs)
holds_plain Packed kind values h = h.plain
holds_plain Dictionary kind values h = subst (λ (k : ColType). AllByRecursion (IsPlain k) values) (sym h.text) h.plain
holds_plain Plain kind values h = h.plain

pub holds_goes : (encoding : Encoding) (kind : ColType) (values : List Value) → Holds encoding kind values → goes_with encoding kind ≡ true
holds_goes Constant kind values h = refl
holds_goes RunLength kind values h = refl
holds_goes Packed types.Text values h = absurd h.numeric
holds_goes Packed kind values h = refl
holds_goes Dictionary kind values h = subst (λ (k : ColType). goes_with Dictionary k ≡ true) (sym h.text) refl
holds_goes Plain kind values h = refl

constant_some : (kind : ColType) (values : List Value) → Holds Constant kind values → 0 < length values
constant_some kind [] h = absurd h
constant_some kind (v ∷ vs) h = omega arith

-- only plain bodies stand for no values
pub holds_some : (encoding : Encoding) (kind : ColType) (values : List Value) → Holds encoding kind values → is_plain encoding ≡ false → 0 < length values
holds_some Constant kind values h e = constant_some kind values h
holds_some RunLength kind values h e = h.some
holds_some Packed kind values h e = h.some
holds_some Dictionary kind values h e = h.some
holds_some Plain kind values h e = absurd cc
