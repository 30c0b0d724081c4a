-- What the kind and the word of a value stand for.
use Rattle.std.specs.Prelude.{ℕ, ◌%◌, ◌^◌, ◌==◌, List, [], ◌∷◌}
use Rattle.std.specs.Int.{w32, w64, cast_signed}
use Rattle.dk_rows.specs.declared.slots.Kind.{Kind}
use Rattle.dk_rows.specs.declared.slots.Kind.TheVariants as kinds
use Rattle.dk_rows.specs.declared.slots.Slot.{Slot}
use Rattle.dk_rows.specs.declared.slots.Slot.TheVariants as places

abbrev pub kind_of : Slot → Kind
kind_of places.Null = kinds.Null
kind_of (places.Bool truth) = kinds.Bool
kind_of (places.Int number) = kinds.Int
kind_of (places.Big number) = kinds.Big
kind_of (places.Text place) = kinds.Text
kind_of (places.Huge place) = kinds.Huge

abbrev pub slot_of : Kind → ℕ → Slot
slot_of kinds.Null word = places.Null
slot_of kinds.Bool word = places.Bool (word == 1)
slot_of kinds.Int word = places.Int (cast_signed w32 (word % 2 ^ 32))
slot_of kinds.Big word = places.Big (cast_signed w64 word)
slot_of kinds.Text word = places.Text word
slot_of kinds.Huge word = places.Huge word

-- the slots of kinds and words
abbrev pub slots : List Kind → List ℕ → List Slot
slots [] words = []
slots (k ∷ ks) [] = []
slots (k ∷ ks) (w ∷ ws) = slot_of k w ∷ slots ks ws
