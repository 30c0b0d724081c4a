use Rattle.std.proofs.Common.{◌≡◌, ◌^◌, ◌%◌, ◌-◌, ◌/◌, ℕ, ap, ◌∙◌, ◌==◌, get_or}
use Rattle.std.specs.Int.{bit_at}
use Rattle.dk_columns.proofs.MaskLemmas.{cleared_here, cleared_other, got_or}
use Rattle.dk_columns.proofs.mask.clear.Goals as goal

pub returns-clause-here : goal.returns-clause-here
returns-clause-here c = cleared_here c.fill.new.words.items c.args.i c.index_mut.result.now c.in_ok-fill.ensures.long

pub returns-clause-others : goal.returns-clause-others
returns-clause-others c j ne =
    let e : c.index_mut.result.now ≡ get_or c.fill.new.words.items (c.args.i / 64) (2 ^ 64 - 1) = got_or _ _ _ _ c.in_ok-fill.ensures.long c.index_mut.ensures.value in
    cleared_other c.fill.new.words.items c.args.i j c.index_mut.result.now e c.in_ok-fill.ensures.long ne
    ∙ ap (λ (w : ℕ). bit_at w (j % 64) == 1) (c.fill.ensures.same (j / 64))
