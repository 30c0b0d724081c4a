use Rattle.std.proofs.Common.{ℤ, List, Option, map, ap, sym, ◌∙◌}
use Rattle.dk_columns.specs.Options.{number_or_zero}
use Rattle.dk_columns.proofs.OptionsLemmas.{numbers_again}
use Rattle.dk_columns.proofs.numbers.Numbers.numbers.Goals as goal

pub returns : goal.returns
returns c = c.deref.ensures.value ∙ sym (numbers_again _ _ c.self.invariant) ∙ ap (λ (os : List (Option ℤ)). map number_or_zero os) c.self.view_is
