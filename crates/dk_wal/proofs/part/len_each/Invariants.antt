use Rattle.std.proofs.Common.{◌≡◌, ◌+◌, ◌<◌, ◌^◌, length}
use Rattle.std.specs.List.{flat_map}
use Rattle.dk_fault.specs.Counts.{capped}
use Rattle.dk_wal.proofs.part.len_each.Given as goal

abbrev pub invariant-parts : goal.invariant-parts
invariant-parts g l = record {
  small : l.len < 2 ^ 64;
  told : capped (l.len + length (flat_map g.T.Part.spell l.left)) ≡ capped (length (flat_map g.T.Part.spell l.parts));
}

abbrev pub decreases-parts : goal.decreases-parts
decreases-parts g l = length l.left
