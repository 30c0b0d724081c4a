-- A block more is taken, and a part written.
use Rattle.std.specs.Prelude.{None}
use Rattle.std.proofs.Common.{arith}
use Rattle.dk_device.proofs.OutcomeLemmas.{on_ok}
use Rattle.dk_meta.specs.declared.limits.TheConstants.{PART_BYTES}
use Rattle.dk_strings.specs.Effects.{HasPart}
use Rattle.dk_strings.proofs.WritingLemmas.{pending_start, writes_nothing, next_writes, last_writes, pending_next, pending_last, cut_is}
use Rattle.dk_strings.proofs.writing.write_parts.Goals as goal

pub returns-in_err-block-clause-writes : goal.returns-in_err-block-clause-writes
returns-in_err-block-clause-writes g c =
    writes_nothing g.D.Disk c.take_block.new.blocks c.args.blocks.now c.args.man.now.used c.take_block.new.man.used
    c.args.disk.now c.requires.none c.in_err-block.ensures.err.1 c.in_err-block.ensures.err.0

pub parts-init : goal.parts-init
parts-init g c = record {
  pending =
      pending_start g.D.Disk c.in_ok-block.block c.take_block.new.blocks c.args.blocks.now c.args.man.now.used
      c.take_block.new.man.used c.args.bytes.now c.args.disk.now c.requires.none c.in_ok-block.ensures.noted
      c.requires.headers c.requires.within c.in_ok-block.ensures.least c.in_ok-block.ensures.taken;
  some = c.requires.some;
  later = omega arith;
}

pub returns-in_err-write_block_part-clause-writes : goal.returns-in_err-write_block_part-clause-writes
returns-in_err-write_block_part-clause-writes g c =
    next_writes g.D.Disk c.parts.blocks c.args.man.now.used c.parts.man.used c.parts.block c.parts.rest.now
    c.args.bytes.now c.args.disk.now c.parts.disk c.parts.invariant.pending c.in_ok-next.next c.take_next.new.blocks
    c.take_next.new.man.used c.write_block_part.new.disk c.in_ok-next.ensures.least c.in_ok-next.ensures.taken
    c.in_ok-next.ensures.noted c.write_block_part.ensures.alone

pub parts-preserved : goal.parts-preserved
parts-preserved g c = record {
  pending =
      pending_next g.D.Disk c.parts.blocks c.args.man.now.used c.parts.man.used c.parts.block c.parts.rest.now
      c.args.bytes.now c.args.disk.now c.parts.disk c.parts.invariant.pending c.in_ok-next.next
      c.split_at.result.0.now c.split_at.result.1.now c.take_next.new.blocks c.take_next.new.man.used
      c.write_block_part.new.disk
      (cut_is PART_BYTES c.parts.rest.now c.split_at.result.0.now c.split_at.result.1.now c.split_at.ensures.front
      c.split_at.ensures.back)
      c.in_ok-next.ensures.least c.in_ok-next.ensures.taken c.in_ok-next.ensures.noted
      c.in_ok-write_block_part.ensures.done c.write_block_part.ensures.alone;
  some = omega (arith, c.parts-test.true, c.split_at.ensures.back_len);
  later = omega (arith, c.parts.invariant.later, c.write_block_part.ensures.cause.later);
}

pub returns-clause-done : goal.returns-clause-done
returns-clause-done g c = on_ok c.write_block_part-2.result
    (λ (has : HasPart g.D.Disk c.parts.block (record { next = None; bytes = c.parts.rest.now }) c.parts.disk
    c.write_block_part-2.new.disk).
    pending_last g.D.Disk c.parts.blocks c.args.man.now.used c.parts.man.used c.parts.block c.parts.rest.now
    c.args.bytes.now c.args.disk.now c.parts.disk c.parts.invariant.pending c.write_block_part-2.new.disk has
    c.write_block_part-2.ensures.alone)
    c.write_block_part-2.ensures.done

pub returns-clause-writes : goal.returns-clause-writes
returns-clause-writes g c =
    last_writes g.D.Disk c.parts.blocks c.args.man.now.used c.parts.man.used c.parts.block c.parts.rest.now
    c.args.bytes.now c.args.disk.now c.parts.disk c.parts.invariant.pending c.write_block_part-2.new.disk
    c.write_block_part-2.ensures.alone
