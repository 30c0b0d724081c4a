-- What is left is claimed to the same.
use Rattle.std.specs.Prelude.{◌≡◌, length}
use Rattle.dk_strings.specs.Effects.{StaysUsed}
use Rattle.dk_recover.specs.Blocks.{claim_column}
use Rattle.dk_recover.specs.Readings.{each}
use Rattle.dk_recover.specs.Owners.{claimed_of, IsOwner}
use Rattle.dk_recover.proofs.blocks.claim_columns.Given as goal

abbrev pub invariant-columns : goal.invariant-columns
invariant-columns l = record {
  told : each (claim_column l.fn.owner.count) (claimed_of l.man l.owner) l.left
      ≡ each (claim_column l.fn.owner.count) (claimed_of l.fn.man l.fn.owner) l.columns;
  owner : IsOwner l.man l.owner;
  count : l.owner.count ≡ l.fn.owner.count;
  stays : StaysUsed l.fn.man.used l.man.used;
  blocks : l.man.blocks ≡ l.fn.man.blocks;
}

abbrev pub decreases-columns : goal.decreases-columns
decreases-columns l = length l.left
