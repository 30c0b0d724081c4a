-- A part more is read, or the last one, or it is none.
use Rattle.std.specs.Prelude.{◌<◌}
use Rattle.std.proofs.Common.{◌∙◌, arith}
use Rattle.std.proofs.lemmas.Result.{err_from_is_err_and}
use Rattle.dk_device.specs.declared.device.FileId.TheVariants.{Main}
use Rattle.dk_strings.specs.Effects.{chain_of}
use Rattle.dk_strings.proofs.EffectLemmas.{looks_then}
use Rattle.dk_strings.proofs.ReadingLemmas.{reads_next, reads_last, reads_fault, marked_more}
use Rattle.dk_strings.proofs.reading.read_chain.Goals as goal

pub returns-in_err-read_next-clause-exact : goal.returns-in_err-read_next-clause-exact
returns-in_err-read_next-clause-exact g c =
    let p = err_from_is_err_and c.from_residual.result c.from_residual.ensures.1 in
    let some : 0 < c.parts.left = omega (arith, c.parts-test.true) in
    rw (p.1, p.2) (reads_fault g.D.Disk c.args.string c.args.man.now.used (chain_of c.parts.found) c.parts.man.used
    c.parts.left c.parts.place c.args.disk.now c.parts.disk some (c.parts.invariant.looks.content Main)
    c.parts.invariant.told c.read_next.new.found.bytes.items c.in_err-read_next.field-0.0
    c.in_err-read_next.ensures.part)

pub returns-in-None-clause-exact : goal.returns-in-None-clause-exact
returns-in-None-clause-exact g c =
    let some : 0 < c.parts.left = omega (arith, c.parts-test.true) in
    reads_last g.D.Disk c.args.string c.args.man.now.used (chain_of c.parts.found) c.parts.man.used
    c.parts.left c.parts.place c.args.disk.now c.parts.disk some (c.parts.invariant.looks.content Main)
    c.parts.invariant.told c.in_ok-read_next.field-0 c.read_next.new.found.bytes.items c.read_next.new.found.blocks
    c.in-None.is c.in_ok-read_next.ensures.ok c.in_ok-read_next.ensures.part

pub returns-in-None-clause-marked : goal.returns-in-None-clause-marked
returns-in-None-clause-marked g c =
    marked_more c.parts.found.blocks c.read_next.new.found.blocks c.args.man.now.used c.parts.man.used
    c.read_next.new.man.used c.parts.place.root c.parts.invariant.marked c.in_ok-read_next.ensures.marked
    c.in_ok-read_next.ensures.ok

pub parts-preserved : goal.parts-preserved
parts-preserved g c =
    let some : 0 < c.parts.left = omega (arith, c.parts-test.true) in
    record {
      told =
          reads_next g.D.Disk c.args.string c.args.man.now.used (chain_of c.parts.found) c.parts.man.used
          c.parts.left c.parts.place c.args.disk.now c.parts.disk some (c.parts.invariant.looks.content Main)
          c.parts.invariant.told c.in_ok-read_next.field-0 c.in-Some.next c.read_next.new.found.bytes.items
          c.read_next.new.found.blocks c.read_next.new.man.used c.in-Some.is c.in_ok-read_next.ensures.marked
          c.in_ok-read_next.ensures.ok c.in_ok-read_next.ensures.part;
      marked =
          marked_more c.parts.found.blocks c.read_next.new.found.blocks c.args.man.now.used c.parts.man.used
          c.read_next.new.man.used c.parts.place.root c.parts.invariant.marked c.in_ok-read_next.ensures.marked
          c.in_ok-read_next.ensures.ok;
      stays = λ k on. c.read_next.ensures.stays k (c.parts.invariant.stays k on);
      blocks = c.read_next.ensures.blocks ∙ c.parts.invariant.blocks;
      looks =
          looks_then g.D.Disk c.args.disk.now c.parts.disk c.read_next.new.disk c.parts.invariant.looks
          c.read_next.ensures.looks;
      later = omega (arith, c.parts.invariant.later, c.read_next.ensures.cause.later);
    }
