-- The gate of a twin, or nothing, is written at its place.
use Rattle.std.specs.Prelude.{ℕ}
use Rattle.std.proofs.Common.{subst}
use Rattle.dk_block_file.specs.Effects.{WritesHeaders}
use Rattle.dk_block_file.proofs.flip.write_gate.Goals as goal

pub returns-clause-writes : goal.returns-clause-writes
returns-clause-writes g c =
    subst (λ (at : ℕ). WritesHeaders g.D.Disk at c.args.bytes.now c.args.disk.now c.write_headers.new.disk
    c.write_headers.result) c.gate_place.ensures
    c.write_headers.ensures.writes
