use Rattle.std.proofs.Common.{◌≡◌, ◌^◌, ◌-◌, ◌/◌, ◌<◌, length, get_or, arith}
use Rattle.dk_columns.proofs.MaskLemmas.{raised_here, raised_other, past_words, got_or}
use Rattle.dk_columns.proofs.mask.raise.Goals as goal

pub returns-then-i-len-clause-here : goal.returns-then-i-len-clause-here
returns-then-i-len-clause-here c =
    raised_here c.args.words.now.items c.args.i c.index_mut.result.now (omega (arith, c.if-i-len.true, c.len.ensures, c.args.words.now.ok.0))

pub returns-then-i-len-clause-others : goal.returns-then-i-len-clause-others
returns-then-i-len-clause-others c j ne =
    let within : c.args.i / 64 < length c.args.words.now.items = omega (arith, c.if-i-len.true, c.len.ensures, c.args.words.now.ok.0) in
    let e : c.index_mut.result.now ≡ get_or c.args.words.now.items (c.args.i / 64) (2 ^ 64 - 1) = got_or _ _ _ _ within c.index_mut.ensures.value in
    raised_other c.args.words.now.items c.args.i j c.index_mut.result.now e within ne

pub returns-else-i-len-clause-here : goal.returns-else-i-len-clause-here
returns-else-i-len-clause-here c = past_words c.args.words.now.items c.args.i (omega (arith, c.if-i-len.false, c.len.ensures, c.args.words.now.ok.0))
