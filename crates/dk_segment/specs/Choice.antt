-- The encoding of least size.
use Rattle.std.specs.Prelude.{◌≡◌, ◌↔◌, ℕ, ◌<◌, ◌≤◌, List, length, Option, Some, None, IsSome, IfSome, nat_le, if◌then◌else◌}
use Rattle.dk_values.specs.declared.value.ColType.{ColType}
use Rattle.dk_values.specs.declared.value.Value.{Value}
use Rattle.dk_segment.specs.declared.encoding.Encoding.{Encoding}
use Rattle.dk_segment.specs.declared.encoding.Encoding.TheVariants.{Constant, RunLength, Packed, Dictionary, Plain}
use Rattle.dk_segment.specs.declared.choice.Choice.{Choice}
use Rattle.dk_segment.specs.declared.choice.Sizes.{Sizes}
use Rattle.dk_segment.specs.Bodies.{Holds, body_of}

-- the place in the order of the enum
abbrev pub place_of : Encoding → ℕ
place_of Constant = 0
place_of RunLength = 1
place_of Packed = 2
place_of Dictionary = 3
place_of Plain = 4

-- of the encodings from that place on, this is the first with the least body
pub record IsBestFrom (from : ℕ) (kind : ColType) (values : List Value) (encoding : Encoding) : Type 0 where
  pub holds : Holds encoding kind values
  pub least : (other : Encoding) → from ≤ place_of other → Holds other kind values
      → length (body_of encoding values) ≤ length (body_of other values)
  pub first : (other : Encoding) → from ≤ place_of other → place_of other < place_of encoding
      → Holds other kind values → length (body_of encoding values) < length (body_of other values)

-- the first encoding with the least body
abbrev pub IsBest : ColType → List Value → Encoding → Type 0
IsBest kind values encoding = IsBestFrom 0 kind values encoding

-- how long the body of the values is, if the encoding holds them
pub record IsSize (encoding : Encoding) (kind : ColType) (values : List Value) (size : Option ℕ) : Type 0 where
  pub held : IsSome size ↔ Holds encoding kind values
  pub length : IfSome size (λ n. n ≡ length (body_of encoding values))

pub record AreSizes (kind : ColType) (values : List Value) (sizes : Sizes) : Type 0 where
  pub constant : IsSize Constant kind values sizes.constant
  pub run_length : IsSize RunLength kind values sizes.run_length
  pub packed : IsSize Packed kind values sizes.packed
  pub dictionary : IsSize Dictionary kind values sizes.dictionary
  pub plain_holds : Holds Plain kind values
  pub plain : sizes.plain ≡ length (body_of Plain values)

abbrev pub choice_of : Encoding → ℕ → Choice
choice_of encoding size = record { encoding = encoding; size = size }

-- of a choice and one encoding more the one of less size; a tie goes to the one more
abbrev pub better : Choice → Encoding → Option ℕ → Choice
better choice encoding None = choice
better choice encoding (Some size) = if nat_le size choice.size then choice_of encoding size else choice

-- the first encoding of least size
abbrev pub best_of : Sizes → Encoding
best_of sizes =
    (better (better (better (better (choice_of Plain sizes.plain)
    Dictionary sizes.dictionary) Packed sizes.packed) RunLength sizes.run_length) Constant sizes.constant).encoding
