use Rattle.std.proofs.Common.{◌≡◌, ◌++◌, length}
use Rattle.std.specs.List.{flat_map, AllByRecursion}
use Rattle.dk_wal.proofs.part.put_each.Given as goal

abbrev pub invariant-parts : goal.invariant-parts
invariant-parts g l = record {
  told : l.out.items ++ flat_map g.T.Part.spell l.left ≡ l.fn.out.items ++ flat_map g.T.Part.spell l.parts;
  fits : AllByRecursion g.T.Part.fits l.left;
}

abbrev pub decreases-parts : goal.decreases-parts
decreases-parts g l = length l.left
