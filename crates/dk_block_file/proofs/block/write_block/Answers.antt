-- A block is written with its checksum.
use Rattle.std.specs.Prelude.{◌≡◌, ℕ, List}
use Rattle.std.proofs.Common.{subst, sym, ◌∙◌}
use Rattle.dk_device.specs.Calls.{Stopped, Did}
use Rattle.dk_device.proofs.CallLemmas.{makes_failed}
use Rattle.dk_block_file.specs.Blocks.{with_sum, stored_sum, payload_sum}
use Rattle.dk_block_file.specs.Calls.{block_write_call}
use Rattle.dk_block_file.specs.Effects.{WritesBlock}
use Rattle.dk_block_file.proofs.BlockLemmas.{sealed_matches, fails_by_disk}
use Rattle.dk_block_file.proofs.block.write_block.Goals as goal

pub write_bytes-requires-clause-sums : goal.write_bytes-requires-clause-sums
write_bytes-requires-clause-sums g c =
    subst (λ (bytes : List ℕ). stored_sum bytes ≡ payload_sum bytes)
    (sym (c.as_slice.ensures.bytes ∙ c.seal.ensures.with_sum)) (sealed_matches c.args.buf.now)

pub returns-clause-done : goal.returns-clause-done
returns-clause-done g c =
    subst (λ (bytes : List ℕ). WritesBlock g.D.Disk c.args.block bytes c.args.disk.now c.write_bytes.new.disk)
    (c.as_slice.ensures.bytes ∙ c.seal.ensures.with_sum) c.in_ok-write_bytes.ensures.done

pub returns-in_err-write_bytes-clause-calls : goal.returns-in_err-write_bytes-clause-calls
returns-in_err-write_bytes-clause-calls g c =
    makes_failed g.D.Disk (block_write_call c.args.block (with_sum c.args.buf.now)) c.args.disk.now
    c.write_bytes.new.disk _ c.from_residual.result c.from_residual.ensures.1
    (subst (λ (bytes : List ℕ). Stopped (block_write_call c.args.block bytes) (g.D.Disk.time c.args.disk.now)
    (g.D.Disk.calls c.args.disk.now) (g.D.Disk.time c.write_bytes.new.disk)
    (g.D.Disk.calls c.write_bytes.new.disk))
    (c.as_slice.ensures.bytes ∙ c.seal.ensures.with_sum) c.in_err-write_bytes.ensures.calls.failed)

pub returns-clause-calls : goal.returns-clause-calls
returns-clause-calls g c = record {
  done =
      subst (λ (bytes : List ℕ). Did (block_write_call c.args.block bytes) (g.D.Disk.time c.args.disk.now)
      (g.D.Disk.calls c.args.disk.now) (g.D.Disk.time c.write_bytes.new.disk)
      (g.D.Disk.calls c.write_bytes.new.disk))
      (c.as_slice.ensures.bytes ∙ c.seal.ensures.with_sum) c.in_ok-write_bytes.ensures.calls.done;
  failed = tt;
}

pub returns-in_err-write_bytes-clause-cause : goal.returns-in_err-write_bytes-clause-cause
returns-in_err-write_bytes-clause-cause g c =
    fails_by_disk (g.D.Disk.faults c.args.disk.now) (g.D.Disk.faults c.write_bytes.new.disk) c.from_residual.result
    c.from_residual.ensures.1 c.in_err-write_bytes.ensures.cause.later c.in_err-write_bytes.ensures.cause.failed

pub returns-clause-cause : goal.returns-clause-cause
returns-clause-cause g c = record { later = c.write_bytes.ensures.cause.later; failed = tt }
