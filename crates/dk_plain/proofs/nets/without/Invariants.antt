-- What is kept so far, and what is kept of the rest.
use Rattle.std.proofs.Common.{◌≡◌, ◌++◌, drop}
use Rattle.dk_si.specs.Nets.{without}
use Rattle.dk_plain.proofs.nets.without.Given as goal

abbrev pub invariant-loop-part : goal.invariant-loop-part
invariant-loop-part l = l.kept.items ++ without (drop l.part-index l.net) l.table ≡ without l.net l.table
