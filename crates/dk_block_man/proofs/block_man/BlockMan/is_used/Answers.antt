-- A block is used where its flag is set.
use Rattle.std.proofs.Common.{ap, arith}
use Rattle.dk_block_man.specs.Used.{Blocks}
use Rattle.dk_block_man.proofs.UsedLemmas.{read_is, else_is}
use Rattle.dk_block_man.proofs.block_man.BlockMan.is_used.Goals as goal

pub returns-then-place-len : goal.returns-then-place-len
returns-then-place-len c = let is = ap (λ (b : Blocks). b.used) c.self.view_is in
    read_is c.self.inside.flags.items _ c.args.block _ is c.index.ensures
    (omega (arith, c.if-place-len.true, c.len.ensures))

pub returns-else-place-len : goal.returns-else-place-len
returns-else-place-len c = let is = ap (λ (b : Blocks). b.used) c.self.view_is in
    else_is c.self.inside.flags.items _ c.args.block c.len.result is
    (omega (arith, c.if-place-len.false, c.len.ensures)) (omega (arith, c.if-place-len.false))
