-- Each chunk that is given back is empty.
use Rattle.std.proofs.Common.{◌<◌, length, ◌∙◌, arith}
use Rattle.dk_undo.proofs.PackedLemmas.{freed}
use Rattle.dk_undo.proofs.chain.free_chunks.Goals as goal

pub destroy_empty-requires : goal.destroy_empty-requires
destroy_empty-requires g c =
    let all = c.loop-chunks.chunks in
    let more : c.args.keep < length all.items = omega (arith, c.loop-chunks-test.true, c.len.ensures, all.ok.0) in
    (freed c.args.keep all.items c.pop.new.self.items c.in-Some.chunk c.in-Some.ensures.items more
    c.loop-chunks.invariant.0).0

pub loop-chunks-preserved-in-Some : goal.loop-chunks-preserved-in-Some
loop-chunks-preserved-in-Some g c =
    let all = c.loop-chunks.chunks in
    let more : c.args.keep < length all.items = omega (arith, c.loop-chunks-test.true, c.len.ensures, all.ok.0) in
    let on = freed c.args.keep all.items c.pop.new.self.items c.in-Some.chunk c.in-Some.ensures.items more
    c.loop-chunks.invariant.0 in
    (on.1, on.2 ∙ c.loop-chunks.invariant.1)
