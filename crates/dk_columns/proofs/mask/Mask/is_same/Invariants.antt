-- The flags are the same up to the i-th.
use Rattle.std.proofs.Common.{◌≡◌, take}
use Rattle.dk_columns.proofs.mask.Mask.is_same.Given as goal

abbrev pub invariant-flags : goal.invariant-flags
invariant-flags l = take l.i l.self ≡ take l.i l.other
