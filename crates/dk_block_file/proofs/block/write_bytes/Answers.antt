-- The bytes of a block are written at its place, in one call of the disk.
use Rattle.std.specs.Prelude.{ℕ, [], ◌∷◌, length}
use Rattle.std.proofs.Common.{subst, arith}
use Rattle.dk_device.specs.declared.device.FileId.TheVariants.{Main}
use Rattle.dk_device.specs.declared.calls.Request.TheVariants.{Write}
use Rattle.dk_device.specs.Calls.{Makes}
use Rattle.dk_device.specs.Changes.{ChangesAlone}
use Rattle.dk_device.specs.Disk.{TornWrite}
use Rattle.dk_device.proofs.CallLemmas.{makes_one}
use Rattle.dk_device.proofs.ChangeLemmas.{write_alone}
use Rattle.dk_block_file.specs.declared.layout.TheConstants.{BLOCK_BYTES}
use Rattle.dk_block_file.proofs.BlockLemmas.{written_block}
use Rattle.dk_block_file.proofs.FrontLemmas.{front_write, front_headers, front_currents, front_closes}
use Rattle.dk_block_file.proofs.OtherBlockLemmas.{others_images, one_block_stays}
use Rattle.dk_block_file.proofs.block.write_bytes.Goals as goal

pub returns-clause-alone : goal.returns-clause-alone
returns-clause-alone g c =
    subst (λ (a : ℕ). ChangesAlone g.D.Disk (TornWrite a BLOCK_BYTES (g.D.Disk.extent c.args.disk.now Main)) Main
    c.args.disk.now c.write_at.new.self) c.place_in-at.ensures
    (subst (λ (n : ℕ). ChangesAlone g.D.Disk
    (TornWrite c.place_in-at.result n (g.D.Disk.extent c.args.disk.now Main)) Main c.args.disk.now
    c.write_at.new.self) c.requires.whole
    (write_alone g.D.Disk Main c.args.disk.now c.write_at.new.self c.write_at.ensures.writes.other_file
    c.write_at.ensures.call.time c.place_in-at.result (length c.args.bytes.now) c.write_at.ensures.writes.crash))

pub returns-clause-others : goal.returns-clause-others
returns-clause-others g c = record {
  no_shorter = c.write_at.ensures.writes.no_shorter;
  no_longer = omega (arith, c.write_at.ensures.writes.no_longer, c.place_in-at.ensures, c.requires.whole);
  images = others_images g.D.Disk c.args.block c.args.disk.now c.write_at.new.self (returns-clause-alone g c).images;
  one_block = λ k lies not one. one_block_stays g.D.Disk c.args.block c.args.disk.now c.write_at.new.self
      (returns-clause-alone g c).images k lies not one;
}

pub returns-clause-headers : goal.returns-clause-headers
returns-clause-headers g c = λ headers.
    let front = front_write g.D.Disk c.args.disk.now c.write_at.new.self headers c.args.block
    (returns-clause-alone g c).images in
    record {
      there = front_headers g.D.Disk c.args.disk.now c.write_at.new.self headers front
          c.write_at.ensures.writes.no_shorter;
      current = front_currents g.D.Disk c.args.disk.now c.write_at.new.self headers front;
      closes = front_closes g.D.Disk c.args.disk.now c.write_at.new.self headers front;
    }

pub returns-clause-done : goal.returns-clause-done
returns-clause-done g c =
    written_block g.D.Disk c.args.block c.place_in-at.result c.args.bytes.now c.args.disk.now c.write_at.new.self
    c.write_at.result (g.met.D.Disk.content_length c.args.disk.now Main)
    c.requires.place c.requires.whole c.requires.sums c.place_in-at.ensures c.write_at.ensures.writes.written
    c.write_at.ensures.writes.grown c.write_at.ensures.writes.crash.allows

pub returns-clause-calls : goal.returns-clause-calls
returns-clause-calls g c =
    subst (λ (a : ℕ). Makes g.D.Disk ((Main, Write a c.args.bytes.now) ∷ []) c.args.disk.now c.write_at.new.self
    c.write_at.result) c.place_in-at.ensures
    (makes_one g.D.Disk (Main, Write c.place_in-at.result c.args.bytes.now) c.args.disk.now c.write_at.new.self
    c.write_at.result c.write_at.ensures.call.time.next c.write_at.ensures.call.calls)
