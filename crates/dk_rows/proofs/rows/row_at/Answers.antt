use Rattle.std.proofs.Common.{◌-◌, ℕ, List, Some, get_or, take, drop, ap, sym, ◌∙◌, arith}
use Rattle.dk_values.specs.declared.value.Value.{Value}
use Rattle.dk_rows.proofs.PartsLemmas.{starts, part_at}
use Rattle.dk_rows.proofs.rows.row_at.Goals as goal

pub new-requires-clause-order : goal.new-requires-clause-order
new-requires-clause-order c =
    let h = starts 0 c.args.values.now c.args.ends.now c.args.i 0 c.requires.within c.requires.ends in
    omega (arith, h.0, c.start_at.ensures)

pub new-requires-clause-within : goal.new-requires-clause-within
new-requires-clause-within c = (starts 0 c.args.values.now c.args.ends.now c.args.i 0 c.requires.within c.requires.ends).1

pub returns : goal.returns
returns c =
    part_at 0 c.args.values.now c.args.ends.now c.args.i 0 c.requires.within
    ∙ ap (λ (row : List Value). Some row) (ap (λ (s : ℕ). take (get_or c.args.ends.now c.args.i 0 - s) (drop s c.args.values.now)) (sym c.start_at.ensures) ∙ sym c.new.ensures)
