-- The five encodings: which values each holds, the body, and reading it.
use Rattle.std.specs.Prelude.{ℕ, Bool, true, false, List, Option, Some, None, Result, ◌==◌, if◌then◌else◌}
use Rattle.dk_values.specs.declared.value.ColType.{ColType}
use Rattle.dk_values.specs.declared.value.ColType.TheVariants as types
use Rattle.dk_values.specs.declared.value.Value.{Value}
use Rattle.dk_seg_run.specs.Constant.{IsConstant, constant_bytes, constant_at}
use Rattle.dk_seg_run.specs.RunLength.{HasRuns, run_length_bytes, run_length_at}
use Rattle.dk_seg_pack.specs.Packed.{IsPacked, packed_bytes, packed_at}
use Rattle.dk_seg_text.specs.Dictionary.{IsDictionary, dictionary_bytes, dictionary_at}
use Rattle.dk_seg_text.specs.Plain.{ArePlain, plain_body, plain_at}
use Rattle.dk_segment.specs.declared.encoding.Encoding.{Encoding}
use Rattle.dk_segment.specs.declared.encoding.Encoding.TheVariants.{Constant, RunLength, Packed, Dictionary, Plain}

-- the present values that an encoding can hold
abbrev pub Holds : Encoding → ColType → List Value → Type 0
Holds Constant kind values = IsConstant kind values
Holds RunLength kind values = HasRuns kind values
Holds Packed kind values = IsPacked kind values
Holds Dictionary kind values = IsDictionary kind values
Holds Plain kind values = ArePlain kind values

-- their body
abbrev pub body_of : Encoding → List Value → List ℕ
body_of Constant values = constant_bytes values
body_of RunLength values = run_length_bytes values
body_of Packed values = packed_bytes values
body_of Dictionary values = dictionary_bytes values
body_of Plain values = plain_body values

-- so many values that a body stands for, or its first fault
abbrev pub body_at : Encoding → ColType → ℕ → List ℕ → Result (List Value) ℕ
body_at Constant kind count bytes = constant_at kind count bytes
body_at RunLength kind count bytes = run_length_at kind count bytes
body_at Packed kind count bytes = packed_at kind count bytes
body_at Dictionary kind count bytes = dictionary_at kind count bytes
body_at Plain kind count bytes = plain_at kind count bytes

-- the byte that names the encoding
abbrev pub code_of : Encoding → ℕ
code_of Plain = 0
code_of Constant = 1
code_of RunLength = 2
code_of Packed = 3
code_of Dictionary = 4

-- texts aren't packed, and have dictionaries alone
abbrev pub goes_with : Encoding → ColType → Bool
goes_with Packed types.Text = false
goes_with Packed kind = true
goes_with Dictionary types.Text = true
goes_with Dictionary kind = false
goes_with encoding kind = true

abbrev pub is_plain : Encoding → Bool
is_plain Plain = true
is_plain encoding = false

-- the encoding that the byte names, if the type has it
abbrev pub known : Encoding → ColType → Option Encoding
known encoding kind = if goes_with encoding kind then Some encoding else None

abbrev pub encoding_of : ColType → ℕ → Option Encoding
encoding_of kind code =
    if code == 0 then known Plain kind
    else (if code == 1 then known Constant kind
    else (if code == 2 then known RunLength kind
    else (if code == 3 then known Packed kind
    else (if code == 4 then known Dictionary kind else None))))
