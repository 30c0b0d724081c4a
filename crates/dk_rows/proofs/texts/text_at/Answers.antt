use Rattle.std.proofs.Common.{◌-◌, ℕ, Some, get_or, take, drop, ap, sym, ◌∙◌, arith}
use Rattle.dk_rows.proofs.PartsLemmas.{starts, part_at}
use Rattle.dk_rows.proofs.texts.text_at.Goals as goal

pub slice_bounds-result-count : goal.slice_bounds-result-count
slice_bounds-result-count c =
    let h = starts 0 c.args.bytes.now c.args.ends.now c.args.i 0 c.requires.within c.requires.ends in
    omega (arith, h.0, c.start_at-start.ensures)

pub slice_bounds-result-start : goal.slice_bounds-result-start
slice_bounds-result-start c =
    let h = starts 0 c.args.bytes.now c.args.ends.now c.args.i 0 c.requires.within c.requires.ends in
    omega (arith, h.0, h.1, c.start_at-start.ensures)

pub slice_bounds-result-end : goal.slice_bounds-result-end
slice_bounds-result-end c =
    let h = starts 0 c.args.bytes.now c.args.ends.now c.args.i 0 c.requires.within c.requires.ends in
    omega (arith, h.0, h.1, c.start_at-start.ensures)

pub returns : goal.returns
returns c =
    part_at 0 c.args.bytes.now c.args.ends.now c.args.i 0 c.requires.within
    ∙ ap (λ (s : ℕ). Some (take (get_or c.args.ends.now c.args.i 0 - s) (drop s c.args.bytes.now))) (sym c.start_at-start.ensures)
