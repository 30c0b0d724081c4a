-- The payload that was written is the part's.
use Rattle.std.specs.Prelude.{◌≡◌, List, ℕ, length, drop}
use Rattle.std.proofs.Common.{sym, ◌∙◌, ap}
use Rattle.dk_device.proofs.OutcomeLemmas.{on_ok}
use Rattle.dk_header.specs.declared.header.TheConstants.{SUM_BYTES}
use Rattle.dk_block_file.specs.declared.layout.TheConstants.{PAYLOAD_BYTES}
use Rattle.dk_block_file.specs.Blocks.{with_sum}
use Rattle.dk_block_file.specs.Effects.{WritesBlock}
use Rattle.dk_block_file.specs.Lending.{with_payload}
use Rattle.dk_strings.proofs.KeepingLemmas.{keeps_other}
use Rattle.dk_strings.proofs.PartLemmas.{part_written}
use Rattle.dk_strings.proofs.writing.write_block_part.Goals as goal

pub returns-clause-alone : goal.returns-clause-alone
returns-clause-alone g c = record {
  keeps = keeps_other g.D.Disk c.args.block c.args.disk.now c.write_block.new.disk c.write_block.ensures.others
      c.write_block.ensures.alone;
  headers = c.write_block.ensures.headers;
}

pub returns-clause-done : goal.returns-clause-done
returns-clause-done g c =
    let whole : length (drop SUM_BYTES c.args.buf.now) ≡ PAYLOAD_BYTES =
    ap (λ (l : List ℕ). length l) (sym c.payload_mut.ensures.bytes) ∙ c.payload_mut.ensures.len in
    on_ok c.write_block.result
    (λ (done : WritesBlock g.D.Disk c.args.block (with_sum (with_payload c.args.buf.now c.write_part.new.payload))
    c.args.disk.now c.write_block.new.disk).
    part_written g.D.Disk c.args.block (record { next = c.args.next; bytes = c.args.bytes.now }) c.args.buf.now
    c.write_part.new.payload c.args.disk.now c.write_block.new.disk whole c.write_part.ensures
    (ap (λ (l : List ℕ). length l) (sym c.write_block.ensures.with_sum.0) ∙ c.write_block.ensures.with_sum.1) done)
    c.write_block.ensures.done
