use Rattle.std.proofs.Common.{◌++◌, Option, ℤ, ap, ◌∙◌, replicate, rules, FitsSigned}
use Rattle.std.specs.Int.{w64}
use Rattle.std.proofs.lemmas.Int.{to_z-of_z}
use Rattle.dk_columns.specs.Options.{options}
use Rattle.dk_columns.proofs.OptionsLemmas.{options_copies, stand_copies}
use Rattle.dk_columns.proofs.numbers.push_both_copies.Goals as goal

pub returns-in-Ok-clause-stand : goal.returns-in-Ok-clause-stand
returns-in-Ok-clause-stand c =
    let fits : FitsSigned w64 c.kept_number.result = search rules in
    rw (c.in-Ok.ensures.ok, c.in_ok-push_number_copies.ensures.ok, to_z-of_z w64 c.kept_number.result fits, c.is_some.ensures)
    (stand_copies _ _ _ _ _ c.requires c.kept_number.ensures.stands)

pub returns-in-Ok-clause-ok : goal.returns-in-Ok-clause-ok
returns-in-Ok-clause-ok c =
    let fits : FitsSigned w64 c.kept_number.result = search rules in
    rw (c.in-Ok.ensures.ok, c.in_ok-push_number_copies.ensures.ok, to_z-of_z w64 c.kept_number.result fits, c.is_some.ensures)
    (options_copies _ _ _ _ _ c.requires ∙ ap (λ (o : Option ℤ). options c.args.present.now c.args.numbers.now.items ++ replicate c.args.count o) c.kept_number.ensures.again)
