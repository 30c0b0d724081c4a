-- The places of a new block are empty.
use Rattle.std.proofs.Common.{[], refl}
use Rattle.dk_undo.proofs.ChunkLemmas.{laid_as}
use Rattle.dk_undo.proofs.chunk.Chunk.new.Goals as goal

pub invariant_of-result : goal.invariant_of-result
invariant_of-result g c =
    let made = c.in_ok-base.ensures in
    (laid_as (record {
      base = c.in_ok-base.base;
      cells = c.in_ok-base.cells;
      deed = c.in_ok-base.deed;
      alloc = c.args.alloc;
    }) [] 64 (made.0, made.2, made.3, made.4) made.1 refl).0
