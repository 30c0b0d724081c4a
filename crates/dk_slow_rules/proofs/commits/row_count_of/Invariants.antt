-- The part stands among the others.
use Rattle.std.proofs.Common.{◌≡◌, drop}
use Rattle.dk_si.specs.Nets.{part_of}
use Rattle.dk_slow_rules.proofs.commits.row_count_of.Given as goal

abbrev pub invariant-loop-part : goal.invariant-loop-part
invariant-loop-part l = part_of (drop l.part-index l.net) l.table ≡ part_of l.net l.table
