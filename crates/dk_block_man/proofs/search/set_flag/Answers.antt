-- A flag that is set, within or at the end, adds its block.
use Rattle.std.proofs.Common.{Bool, List, ap, ◌∙◌, arith}
use Rattle.dk_block_man.proofs.UsedLemmas.{set_of, push_of}
use Rattle.dk_block_man.specs.Used.{used_of}
use Rattle.dk_block_man.proofs.search.set_flag.Goals as goal

pub returns-then-block-len-clause-used : goal.returns-then-block-len-clause-used
returns-then-block-len-clause-used c =
    set_of c.args.flags.now.items c.args.block (omega (arith, c.if-block-len.true, c.len.ensures))
    (c.requires.unused (omega (arith, c.if-block-len.true, c.len.ensures)))

pub returns-clause-used : goal.returns-clause-used
returns-clause-used c =
    ap (λ (l : List Bool). used_of l) c.in_ok-push.ensures.items
    ∙ push_of c.args.flags.now.items c.args.block
    (omega (arith, c.if-block-len.false, c.len.ensures, c.requires.within.within))
