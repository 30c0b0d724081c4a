-- The flags up to the i-th stand behind those before.
use Rattle.std.proofs.Common.{◌≡◌, ◌++◌, take}
use Rattle.dk_columns.proofs.mask.Mask.append.Given as goal

abbrev pub invariant-flags : goal.invariant-flags
invariant-flags l = l.self ≡ l.fn.self ++ take l.i l.more
