-- What was found, and behind it what is read on, is all that is read.
use Rattle.std.specs.Prelude.{◌≡◌, ◌≤◌}
use Rattle.dk_device.specs.Changes.{Looks}
use Rattle.dk_strings.specs.Chains.{with_blocks}
use Rattle.dk_strings.specs.Effects.{chain_of, StaysUsed}
use Rattle.dk_strings.proofs.ReadingLemmas.{ReadsOn}
use Rattle.dk_strings.proofs.reading.read_chain.Given as goal

abbrev pub invariant-parts : goal.invariant-parts
invariant-parts g l = record {
  told : ReadsOn g.D.Disk l.fn.string l.fn.man.used (chain_of l.found) l.man.used l.left l.place l.fn.disk;
  marked : l.man.used ≡ with_blocks l.found.blocks l.fn.man.used;
  stays : StaysUsed l.fn.man.used l.man.used;
  blocks : l.man.blocks ≡ l.fn.man.blocks;
  looks : Looks g.D.Disk l.fn.disk l.disk;
  later : g.D.Disk.faults l.fn.disk ≤ g.D.Disk.faults l.disk;
}

abbrev pub decreases-parts : goal.decreases-parts
decreases-parts g l = l.left
