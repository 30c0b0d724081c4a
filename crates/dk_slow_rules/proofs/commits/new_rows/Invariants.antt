-- The rows of the other parts are still to be counted, and each part has fewer than 2^64.
use Rattle.std.proofs.Common.{◌≡◌, ◌+◌, ◌*◌, ◌^◌, ◌≤◌, drop}
use Rattle.dk_si.specs.Nets.{new_rows}
use Rattle.dk_slow_rules.proofs.commits.new_rows.Given as goal

abbrev pub invariant-loop-part : goal.invariant-loop-part
invariant-loop-part l = (l.count ≤ l.part-index * 2 ^ 64)
    × (l.count + new_rows (drop l.part-index l.parts) ≡ new_rows l.parts)
