-- The flag of the block was looked at, and set where it was not.
use Rattle.std.proofs.Common.{not, set, true, ap, sym, ◌∙◌, arith}
use Rattle.dk_block_man.specs.Used.{Blocks}
use Rattle.dk_block_man.proofs.UsedLemmas.{read_is, mark_of, others_set, others_same, within_flags, within_of}
use Rattle.dk_block_man.proofs.block_man.BlockMan.mark.Goals as goal

pub returns-then-index-clause-was : goal.returns-then-index-clause-was
returns-then-index-clause-was c = let is = ap (λ (b : Blocks). b.used) c.self.view_is in
    let b = read_is c.self.inside.flags.items _ c.args.block _ is c.index.ensures
    (omega (arith, c.requires, ap (λ (b : Blocks). b.blocks) c.self.view_is)) in ap not (sym c.if-index.true ∙ b)

pub returns-clause-was : goal.returns-clause-was
returns-clause-was c = let is = ap (λ (b : Blocks). b.used) c.self.view_is in
    let b = read_is c.self.inside.flags.items _ c.args.block _ is c.index.ensures
    (omega (arith, c.requires, ap (λ (b : Blocks). b.blocks) c.self.view_is)) in ap not (sym c.if-index.false ∙ b)

pub returns-clause-marked : goal.returns-clause-marked
returns-clause-marked c = let is = ap (λ (b : Blocks). b.used) c.self.view_is in
    mark_of c.self.inside.flags.items _ c.args.block c.index.result.now is c.index.ensures c.if-index.false
    (omega (arith, c.requires, ap (λ (b : Blocks). b.blocks) c.self.view_is))

pub returns-then-index-clause-others : goal.returns-then-index-clause-others
returns-then-index-clause-others c = λ k. let is = ap (λ (b : Blocks). b.used) c.self.view_is in
    let b = read_is c.self.inside.flags.items _ c.args.block _ is c.index.ensures
    (omega (arith, c.requires, ap (λ (b : Blocks). b.blocks) c.self.view_is)) in
    others_same c.args.self.now.used c.args.block k (sym b ∙ c.if-index.true)

pub returns-then-index-clause-within : goal.returns-then-index-clause-within
returns-then-index-clause-within c = let is = ap (λ (b : Blocks). b.used) c.self.view_is in
    within_of c.self.inside.flags.items _ _ is (ap (λ (b : Blocks). b.blocks) c.self.view_is)

pub returns-clause-others : goal.returns-clause-others
returns-clause-others c = λ k. let is = ap (λ (b : Blocks). b.used) c.self.view_is in
    others_set c.self.inside.flags.items _ c.args.block true k is
    (omega (arith, c.requires, ap (λ (b : Blocks). b.blocks) c.self.view_is))

pub returns-clause-within : goal.returns-clause-within
returns-clause-within c = within_flags (set c.self.inside.flags.items c.args.block true)
