-- What is left is claimed to the same.
use Rattle.std.specs.Prelude.{◌≡◌, length}
use Rattle.dk_strings.specs.Effects.{StaysUsed}
use Rattle.dk_recover.specs.Blocks.{claim_segment}
use Rattle.dk_recover.specs.Readings.{each}
use Rattle.dk_recover.specs.Owners.{claimed_of, IsOwner}
use Rattle.dk_recover.proofs.blocks.claim_segments.Given as goal

abbrev pub invariant-segments : goal.invariant-segments
invariant-segments l = record {
  told : each (claim_segment l.fn.owner.count) (claimed_of l.man l.owner) l.left
      ≡ each (claim_segment l.fn.owner.count) (claimed_of l.fn.man l.fn.owner) l.segments;
  owner : IsOwner l.man l.owner;
  count : l.owner.count ≡ l.fn.owner.count;
  stays : StaysUsed l.fn.man.used l.man.used;
  blocks : l.man.blocks ≡ l.fn.man.blocks;
}

abbrev pub decreases-segments : goal.decreases-segments
decreases-segments l = length l.left
