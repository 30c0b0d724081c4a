-- The rest comes to the same sum.
use Rattle.std.proofs.Common.{◌≡◌, ◌+◌, ◌<◌, ◌^◌, map, drop}
use Rattle.std.specs.Prelude.{sum}
use Rattle.dk_si.specs.Weight.{cap, part_len}
use Rattle.dk_plain.proofs.weights.parts_len.Given as goal

abbrev pub invariant-loop-part : goal.invariant-loop-part
invariant-loop-part l = (l.total < 2 ^ 64) × (cap (l.total + sum (map part_len (drop l.part-index l.parts)))
    ≡ cap (sum (map part_len l.parts)))
