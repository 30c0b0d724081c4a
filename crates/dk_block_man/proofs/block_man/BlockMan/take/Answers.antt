-- The place that the search found is the least unused block.
use Rattle.std.proofs.Common.{Bool, List, ap, sym, ◌∙◌}
use Rattle.dk_block_man.specs.Used.{Blocks, used_of}
use Rattle.dk_block_man.proofs.UsedLemmas.{least_of, least_unused_of, gains_of, within_flags, on_err}
use Rattle.dk_block_man.proofs.block_man.BlockMan.take.Goals as goal

pub returns-in_err-set_flag-clause-grows : goal.returns-in_err-set_flag-clause-grows
returns-in_err-set_flag-clause-grows c =
    let is = ap (λ (l : List Bool). used_of l) c.as_slice.ensures.value ∙ ap (λ (b : Blocks). b.used) c.self.view_is in
    let least = least_of c.as_slice.result.now _ c.first_unused-block.result is c.first_unused-block.ensures.used
    c.first_unused-block.ensures.unused in
    on_err c.from_residual.result (sym least ∙ c.in_err-set_flag.ensures.full
    ∙ ap (λ (b : Blocks). b.blocks) c.self.view_is)

pub returns-clause-least : goal.returns-clause-least
returns-clause-least c =
    let is = ap (λ (l : List Bool). used_of l) c.as_slice.ensures.value ∙ ap (λ (b : Blocks). b.used) c.self.view_is in
    least_unused_of c.as_slice.result.now _ c.first_unused-block.result is c.first_unused-block.ensures.used
    c.first_unused-block.ensures.unused

pub returns-clause-taken : goal.returns-clause-taken
returns-clause-taken c =
    let is = ap (λ (b : Blocks). b.used) c.self.view_is in
    gains_of c.first_unused-block.result (used_of c.set_flag.new.flags.items) (used_of c.self.inside.flags.items)
    c.args.self.now.used c.in_ok-set_flag.ensures.used is
    (returns-clause-least c).unused

pub returns-in_err-set_flag-clause-within : goal.returns-in_err-set_flag-clause-within
returns-in_err-set_flag-clause-within c = within_flags c.set_flag.new.flags.items

pub returns-clause-within : goal.returns-clause-within
returns-clause-within c = within_flags c.set_flag.new.flags.items
