-- The log is made, and then the headers are written.
use Rattle.std.specs.Prelude.{◌≡◌, ℕ, List, Option, length}
use Rattle.std.proofs.Common.{option_map, subst, ap, ◌∙◌, arith}
use Rattle.dk_device.specs.declared.device.FileId.TheVariants.{Main}
use Rattle.dk_device.specs.Calls.{Stopped, Did, synced_write}
use Rattle.dk_device.specs.Disk.{overlay, TornWrite}
use Rattle.dk_device.proofs.CallLemmas.{makes_first, makes_second, makes_both}
use Rattle.dk_device.proofs.ChangeLemmas.{earlier_then}
use Rattle.dk_block_file.specs.Blocks.{empty_main}
use Rattle.dk_block_file.specs.Calls.{log_creation}
use Rattle.dk_block_file.proofs.GateLemmas.{length-empty}
use Rattle.dk_block_file.proofs.LogLemmas.{log_stays}
use Rattle.dk_block_file.proofs.empty.create_files.Goals as goal

pub returns-clause-files : goal.returns-clause-files
returns-clause-files g c = record {
  log =
      log_stays g.D.Disk (TornWrite 0 (length c.args.main.now) (g.D.Disk.extent c.new_log.new.disk Main))
      c.new_log.new.disk c.write_synced.new.disk
      c.in_ok-new_log.ensures.log c.write_synced.ensures.alone;
  main = record {
    written =
        subst (λ (bytes : List ℕ). g.D.Disk.content c.write_synced.new.disk Main ≡ option_map (overlay 0 bytes)
        (g.D.Disk.content c.new_log.new.disk Main))
        c.requires c.in_ok-write_synced.ensures.written
        ∙ ap (λ (o : Option (List ℕ)). option_map (overlay 0 empty_main) o) c.new_log.ensures.alone.content;
    synced = c.in_ok-write_synced.ensures.synced;
  };
  extent = omega (
    arith,
    c.in_ok-write_synced.ensures.grown,
    c.new_log.ensures.alone.extent,
    ap
        (λ (l : List ℕ). length l) c.requires ∙ length-empty,
  );
}

pub returns-in_err-new_log-clause-earlier : goal.returns-in_err-new_log-clause-earlier
returns-in_err-new_log-clause-earlier g c = c.new_log.ensures.alone.images.earlier

pub returns-in_err-write_synced-clause-earlier : goal.returns-in_err-write_synced-clause-earlier
returns-in_err-write_synced-clause-earlier g c =
    earlier_then g.D.Disk c.args.disk.now c.new_log.new.disk c.write_synced.new.disk
    c.new_log.ensures.alone.images.earlier c.write_synced.ensures.alone.images.earlier

pub returns-clause-earlier : goal.returns-clause-earlier
returns-clause-earlier g c =
    earlier_then g.D.Disk c.args.disk.now c.new_log.new.disk c.write_synced.new.disk
    c.new_log.ensures.alone.images.earlier c.write_synced.ensures.alone.images.earlier

pub returns-in_err-new_log-clause-calls : goal.returns-in_err-new_log-clause-calls
returns-in_err-new_log-clause-calls g c =
    makes_first g.D.Disk log_creation (synced_write Main 0 empty_main) c.args.disk.now c.new_log.new.disk
    _ c.from_residual.result c.from_residual.ensures.1
    c.in_err-new_log.ensures.calls.failed

pub returns-in_err-write_synced-clause-calls : goal.returns-in_err-write_synced-clause-calls
returns-in_err-write_synced-clause-calls g c =
    makes_second g.D.Disk log_creation (synced_write Main 0 empty_main) c.args.disk.now c.new_log.new.disk
    c.write_synced.new.disk _
    c.from_residual-in_err-write_synced.result c.from_residual-in_err-write_synced.ensures.1
    c.in_ok-new_log.ensures.calls.done
    (subst (λ (bytes : List ℕ). Stopped (synced_write Main 0 bytes) (g.D.Disk.time c.new_log.new.disk)
    (g.D.Disk.calls c.new_log.new.disk)
    (g.D.Disk.time c.write_synced.new.disk) (g.D.Disk.calls c.write_synced.new.disk)) c.requires
    c.in_err-write_synced.ensures.calls.failed)

pub returns-clause-calls : goal.returns-clause-calls
returns-clause-calls g c =
    makes_both g.D.Disk log_creation (synced_write Main 0 empty_main) c.args.disk.now c.new_log.new.disk
    c.write_synced.new.disk _ c.in_ok-new_log.ensures.calls.done
    (subst (λ (bytes : List ℕ). Did (synced_write Main 0 bytes) (g.D.Disk.time c.new_log.new.disk)
    (g.D.Disk.calls c.new_log.new.disk)
    (g.D.Disk.time c.write_synced.new.disk) (g.D.Disk.calls c.write_synced.new.disk)) c.requires
    c.in_ok-write_synced.ensures.calls.done)
