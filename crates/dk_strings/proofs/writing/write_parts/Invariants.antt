-- The blocks that were taken hold the front of the string, up to the one that is to hold the next part.
use Rattle.std.specs.Prelude.{◌≤◌, ◌<◌, length}
use Rattle.dk_strings.proofs.WritingLemmas.{Pending}
use Rattle.dk_strings.proofs.writing.write_parts.Given as goal

abbrev pub invariant-parts : goal.invariant-parts
invariant-parts g l = record {
  pending : Pending g.D.Disk l.blocks l.fn.man.used l.man.used l.block l.rest l.fn.bytes l.fn.disk l.disk;
  some : 0 < length l.rest;
  later : g.D.Disk.faults l.fn.disk ≤ g.D.Disk.faults l.disk;
}

abbrev pub decreases-parts : goal.decreases-parts
decreases-parts g l = length l.rest
