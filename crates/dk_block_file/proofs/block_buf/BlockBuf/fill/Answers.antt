-- One read of the disk, of the whole block.
use Rattle.std.specs.Prelude.{◌≡◌, ℕ, List, [], ◌∷◌, length}
use Rattle.std.proofs.Common.{ap, ◌∙◌, subst}
use Rattle.dk_device.specs.declared.device.FileId.TheVariants.{Main}
use Rattle.dk_device.specs.declared.calls.Request.TheVariants.{Read}
use Rattle.dk_device.specs.Calls.{Makes}
use Rattle.dk_device.proofs.CallLemmas.{makes_one}
use Rattle.dk_device.proofs.ChangeLemmas.{looks_read}
use Rattle.dk_block_file.specs.declared.layout.TheConstants.{BLOCK_BYTES}
use Rattle.dk_block_file.proofs.block_buf.BlockBuf.fill.Goals as goal

pub returns-clause-looks : goal.returns-clause-looks
returns-clause-looks g c =
    looks_read g.D.Disk c.args.disk.now c.read_at.new.self c.read_at.ensures.same c.read_at.ensures.call.time

pub returns-clause-calls : goal.returns-clause-calls
returns-clause-calls g c =
    let whole : length c.as_mut_slice.result.now ≡ BLOCK_BYTES =
    ap (λ (l : List ℕ). length l) c.as_mut_slice.ensures.value ∙ c.self.invariant in
    subst (λ (n : ℕ). Makes g.D.Disk ((Main, Read c.args.at n) ∷ []) c.args.disk.now c.read_at.new.self
    c.read_at.result) whole
    (makes_one g.D.Disk (Main, Read c.args.at (length c.as_mut_slice.result.now)) c.args.disk.now
    c.read_at.new.self c.read_at.result
    c.read_at.ensures.call.time.next c.read_at.ensures.call.calls)
