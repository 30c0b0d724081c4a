-- Numbers that differences stand for above a least rank.
use Rattle.std.specs.Prelude.{◌≡◌, ℕ, ℤ, ◌+◌, ◌-◌, ◌%◌, ◌^◌, ◌&&◌, ◌==◌, Bool, List, map, nat_le, nat_lt}
use Rattle.dk_bytes.specs.Bits.{bit_width}
use Rattle.dk_values.specs.declared.value.ColType.{ColType}
use Rattle.dk_values.specs.declared.value.ColType.TheVariants as types
use Rattle.dk_seg_pack.specs.Packed.{number_of_rank, least, greatest}
use Rattle.dk_seg_pack.specs.declared.packed.Above.{Above}

-- the number of the rank so far above the least one
abbrev pub number_above : ℕ → ℕ → ℤ
number_above base difference = number_of_rank ((base + difference) % 2 ^ 64)

-- the least rank of a value of the type
abbrev pub first_rank : ColType → ℕ
first_rank types.Bool = 2 ^ 63
first_rank types.Int = 2 ^ 63 - 2 ^ 31
first_rank types.Big = 0
first_rank types.Text = 0

-- the least rank above all values of the type
abbrev pub end_rank : ColType → ℕ
end_rank types.Bool = 2 ^ 63 + 2
end_rank types.Int = 2 ^ 63 + 2 ^ 31
end_rank types.Big = 2 ^ 64
end_rank types.Text = 0

-- whether all ranks between these two are those of values of the type
abbrev pub are_ranks : ColType → ℕ → ℕ → Bool
are_ranks kind low high = nat_le (first_rank kind) low && nat_lt high (end_rank kind)

-- the numbers of these differences, and the least and the greatest difference
pub record IsAbove (base : ℕ) (differences : List ℕ) (above : Above) : Type 0 where
  pub numbers : above.numbers.items ≡ map (number_above base) differences
  pub least : above.least ≡ least differences
  pub greatest : above.greatest ≡ greatest differences

-- whether a body may have such differences: no bit behind them is 1, one is 0, the width is that of the greatest, and all
-- stand for values
abbrev pub may_stand : ColType → ℕ → ℕ → Above → Bool
may_stand kind base width above =
    above.is_ended && ((above.least == 0)
    && ((bit_width above.greatest == width) && are_ranks kind base (base + above.greatest)))
