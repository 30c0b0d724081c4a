-- So many copies stand behind the flags of before.
use Rattle.std.proofs.Common.{◌≡◌, ◌++◌, false, replicate}
use Rattle.dk_columns.proofs.mask.Mask.push_copies.Given as goal

abbrev pub invariant-copies : goal.invariant-copies
invariant-copies l = l.self ≡ l.fn.self ++ replicate l.counter false
