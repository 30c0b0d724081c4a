-- The flag of the block is cleared.
use Rattle.std.proofs.Common.{ap, arith, set, false}
use Rattle.dk_block_man.specs.Used.{Blocks}
use Rattle.dk_block_man.proofs.UsedLemmas.{among_within, loses_of, within_flags}
use Rattle.dk_block_man.proofs.block_man.BlockMan.give.Goals as goal

pub index_mut-requires : goal.index_mut-requires
index_mut-requires c =
    let is = ap (λ (b : Blocks). b.used) c.self.view_is in
    let lt = among_within c.self.inside.flags.items _ c.args.block is c.requires in
    omega (arith, lt)

pub returns-clause-given : goal.returns-clause-given
returns-clause-given c =
    let is = ap (λ (b : Blocks). b.used) c.self.view_is in
    loses_of c.self.inside.flags.items _ c.args.block is c.requires

pub returns-clause-within : goal.returns-clause-within
returns-clause-within c = within_flags (set c.self.inside.flags.items c.args.block false)
