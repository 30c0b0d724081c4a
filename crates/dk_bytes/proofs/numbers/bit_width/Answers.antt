use Rattle.std.proofs.Common.{refl, rules, ◌<◌, ◌^◌}
use Rattle.dk_bytes.specs.Bits.{bit_width}
use Rattle.dk_bytes.proofs.WidthLemmas.{width_fits, width_least}
use Rattle.dk_bytes.proofs.numbers.bit_width.Goals as goal

pub returns-clause-value : goal.returns-clause-value
unfolding bit_width
returns-clause-value c = refl

pub returns-clause-fits : goal.returns-clause-fits
unfolding bit_width
returns-clause-fits c =
    let h : c.args.number < 2 ^ 64 = search rules in
    width_fits c.args.number h

pub returns-clause-least : goal.returns-clause-least
unfolding bit_width
returns-clause-least c =
    let h : c.args.number < 2 ^ 64 = search rules in
    width_least c.args.number h
