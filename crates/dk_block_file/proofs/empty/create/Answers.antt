-- The headers and the log that were written, as an opening reads them.
use Rattle.std.specs.Prelude.{◌≡◌, ℕ, List, IfSome, length}
use Rattle.std.proofs.Common.{subst, arith}
use Rattle.dk_device.specs.declared.device.FileId.TheVariants.{Main}
use Rattle.dk_block_file.specs.Blocks.{empty_main}
use Rattle.dk_block_file.specs.Calls.{creation}
use Rattle.dk_block_file.proofs.BlockLemmas.{made_to_fault}
use Rattle.dk_block_file.proofs.EmptyLemmas.{version_now, current_now, headers_there}
use Rattle.dk_block_file.proofs.GateLemmas.{second_closed}
use Rattle.dk_block_file.proofs.RangeLemmas.{told_whole}
use Rattle.dk_block_file.proofs.empty.create.Goals as goal

pub returns-clause-creates : goal.returns-clause-creates
returns-clause-creates g c =
    let files = c.in_ok-create_files.ensures.files in
    let old = g.D.Disk.content c.args.disk.now Main in
    let disk = c.create_files.new.disk in
    record {
      created = record {
        main = files.main;
        empty = λ none.
            told_whole empty_main old (g.D.Disk.content disk Main)
            (subst (λ (n : ℕ). IfSome old (λ (m : List ℕ). length m ≡ n)) none
            (g.met.D.Disk.content_length c.args.disk.now Main)) files.main.written;
        extent = files.extent;
        log = files.log;
        version = version_now g.D.Disk disk old files.main.written files.main.synced;
        current = current_now g.D.Disk disk old files.main.written files.main.synced;
        headers = headers_there g.D.Disk disk old files.main.written files.main.synced (omega (arith, files.extent));
        second = second_closed (g.D.Disk.may_leave disk (g.D.Disk.time disk) Main) old (g.D.Disk.content disk Main)
            files.main.written files.main.synced;
      };
      no_shorter = c.create_files.ensures.no_shorter;
      earlier = c.create_files.ensures.earlier;
    }

pub returns-in_err-create_files-clause-calls : goal.returns-in_err-create_files-clause-calls
returns-in_err-create_files-clause-calls g c =
    made_to_fault g.D.Disk creation c.args.disk.now c.create_files.new.disk c.from_residual-in_err-create_files.result
    c.from_residual-in_err-create_files.ensures.1 c.in_err-create_files.ensures.calls.failed

pub returns-clause-calls : goal.returns-clause-calls
returns-clause-calls g c =
    record { done = c.in_ok-create_files.ensures.calls.done; failed = λ is. absurd cc; memory = λ is. absurd cc }
