use Rattle.std.proofs.Common.{ℤ, List, Option, map, ap, sym, ◌∙◌}
use Rattle.std.specs.Prelude.{is_some}
use Rattle.dk_columns.proofs.OptionsLemmas.{flags_again, stand_len}
use Rattle.dk_columns.proofs.numbers.Numbers.present.Goals as goal

pub returns : goal.returns
returns c = sym (flags_again _ _ (stand_len _ _ c.self.invariant)) ∙ ap (λ (os : List (Option ℤ)). map is_some os) c.self.view_is
