-- A block is read in one call of the disk, and its checksums are compared.
use Rattle.std.specs.Prelude.{◌≢◌, ℕ, Result, IfSome, List, [], ◌∷◌, length, drop}
use Rattle.std.proofs.Common.{sym, subst}
use Rattle.dk_device.specs.declared.device.FileId.TheVariants.{Main}
use Rattle.dk_device.specs.declared.calls.Request.TheVariants.{Read}
use Rattle.dk_types.specs.declared.damage.Damage.TheVariants.{Sum}
use Rattle.dk_device.specs.Calls.{Did, Stopped}
use Rattle.dk_header.specs.declared.header.TheConstants.{SUM_BYTES}
use Rattle.dk_block_file.specs.declared.fault.BlockFault.{BlockFault}
use Rattle.dk_block_file.specs.declared.layout.TheConstants.{BLOCK_BYTES}
use Rattle.dk_block_file.specs.Blocks.{block_read, ReadsAs, stored_sum, payload_sum}
use Rattle.dk_block_file.specs.Calls.{block_read_call}
use Rattle.dk_block_file.proofs.BlockLemmas.{told_answers, told_fault, fault_is, no_fault, decided, fault_decides, makes_up_to}
use Rattle.dk_block_file.proofs.block.read_within.Goals as goal

pub returns-in_err-fill-clause-found : goal.returns-in_err-fill-clause-found
returns-in_err-fill-clause-found g c =
    subst (λ (r : Result (Unit {0}) BlockFault). IfSome (g.D.Disk.content c.args.disk.now Main)
    (λ (m : List ℕ). ReadsAs (block_read c.args.block m) (drop SUM_BYTES c.fill.new.self) r))
    (sym (fault_is c.from_residual.result c.from_residual.ensures.1))
    (told_fault (g.D.Disk.content c.args.disk.now Main) c.args.block (drop SUM_BYTES c.fill.new.self))

pub returns-in_err-fill-clause-sums : goal.returns-in_err-fill-clause-sums
returns-in_err-fill-clause-sums g c =
    fault_decides c.args.block c.fill.new.self c.from_residual.result c.from_residual.ensures.1

pub returns-in_err-fill-clause-calls : goal.returns-in_err-fill-clause-calls
returns-in_err-fill-clause-calls g c =
    makes_up_to g.D.Disk (block_read_call c.args.block) c.args.disk.now c.fill.new.disk c.from_residual.result
    c.from_residual.ensures.1
    (subst (λ (at : ℕ). Stopped ((Main, Read at BLOCK_BYTES) ∷ []) (g.D.Disk.time c.args.disk.now)
    (g.D.Disk.calls c.args.disk.now) (g.D.Disk.time c.fill.new.disk) (g.D.Disk.calls c.fill.new.disk))
    c.place_in-at.ensures c.in_err-fill.ensures.calls.failed)

pub returns-in_err-fill-clause-cause : goal.returns-in_err-fill-clause-cause
returns-in_err-fill-clause-cause g c =
    record { later = c.in_err-fill.ensures.cause.later; failed = λ is. c.in_err-fill.ensures.cause.failed }

pub returns-clause-found : goal.returns-clause-found
returns-clause-found g c =
    told_answers c.args.block (g.D.Disk.extent c.args.disk.now Main) c.place_in-at.result (length c.args.buf.now)
    (g.D.Disk.content c.args.disk.now Main) c.fill.new.self c.check_sum.result
    (g.met.D.Disk.content_length c.args.disk.now Main) c.requires c.place_in-at.ensures c.fill.ensures.whole
    c.in_ok-fill.ensures.bytes c.check_sum.ensures.matches c.check_sum.ensures.differs

pub returns-clause-sums : goal.returns-clause-sums
returns-clause-sums g c = decided c.args.block c.fill.new.self c.check_sum.result c.check_sum.ensures.matches
    c.check_sum.ensures.differs

pub returns-clause-calls : goal.returns-clause-calls
returns-clause-calls g c = record {
  done = λ not.
      subst (λ (at : ℕ). Did ((Main, Read at BLOCK_BYTES) ∷ []) (g.D.Disk.time c.args.disk.now)
      (g.D.Disk.calls c.args.disk.now) (g.D.Disk.time c.fill.new.disk) (g.D.Disk.calls c.fill.new.disk))
      c.place_in-at.ensures c.in_ok-fill.ensures.calls.done;
  failed = λ is. absurd
      (no_fault (Sum c.args.block (stored_sum c.fill.new.self) (payload_sum c.fill.new.self))
      (stored_sum c.fill.new.self ≢ payload_sum c.fill.new.self) c.check_sum.result c.check_sum.ensures.differs is);
}

pub returns-clause-cause : goal.returns-clause-cause
returns-clause-cause g c = record {
  later = c.fill.ensures.cause.later;
  failed = λ is. absurd
      (no_fault (Sum c.args.block (stored_sum c.fill.new.self) (payload_sum c.fill.new.self))
      (stored_sum c.fill.new.self ≢ payload_sum c.fill.new.self) c.check_sum.result c.check_sum.ensures.differs is);
}
