-- The gate is closed, or was.
use Rattle.std.specs.Prelude.{ℕ, List}
use Rattle.std.proofs.Common.{subst}
use Rattle.dk_device.specs.declared.device.FileId.TheVariants.{Main}
use Rattle.dk_block_file.specs.Effects.{WritesHeaders}
use Rattle.dk_block_file.specs.Flips.{gate_place}
use Rattle.dk_block_file.proofs.FlipLemmas.{closes}
use Rattle.dk_block_file.proofs.flip.flip_close.Goals as goal

pub returns-clause-closes : goal.returns-clause-closes
returns-clause-closes g c =
    closes g.D.Disk c.args.twin c.args.disk.now c.write_gate.new.disk c.requires.twin c.requires.headers
    c.write_gate.result (g.met.D.Disk.content_length c.args.disk.now Main) c.args.was_open
    (subst (λ (bytes : List ℕ). WritesHeaders g.D.Disk (gate_place c.args.twin) bytes c.args.disk.now
    c.write_gate.new.disk c.write_gate.result) c.bytes_if.ensures.is c.write_gate.ensures.writes) c.requires.lower
