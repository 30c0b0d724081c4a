-- Of flags that are not set no block is used.
use Rattle.std.proofs.Common.{Bool, List, ap, ◌∙◌}
use Rattle.dk_block_man.specs.Used.{used_of}
use Rattle.dk_block_man.proofs.FlagLemmas.{used-none}
use Rattle.dk_block_man.proofs.block_man.BlockMan.new.Goals as goal

pub returns-clause-used : goal.returns-clause-used
returns-clause-used c = ap (λ (l : List Bool). used_of l) (c.in_ok-vec.ensures.items_if_clones_equal (λ y e. e))
    ∙ used-none 0 c.args.blocks
