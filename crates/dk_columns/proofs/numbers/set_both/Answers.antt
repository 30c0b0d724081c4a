use Rattle.std.proofs.Common.{Option, ℤ, ap, ◌∙◌, rules, FitsSigned, arith}
use Rattle.std.specs.Int.{w64}
use Rattle.std.proofs.lemmas.Int.{to_z-of_z}
use Rattle.std.specs.Prelude.{slice_set}
use Rattle.dk_columns.specs.Options.{options}
use Rattle.dk_columns.proofs.OptionsLemmas.{options_set, stand_len, stand_set}
use Rattle.dk_columns.proofs.numbers.set_both.Goals as goal

pub index_mut-requires : goal.index_mut-requires
index_mut-requires c = omega (arith, c.requires.within, stand_len c.args.present.now c.args.numbers.now.items c.requires.stand, c.args.numbers.now.ok.0)

pub returns-clause-stand : goal.returns-clause-stand
returns-clause-stand c =
    let fits : FitsSigned w64 c.kept_number.result = search rules in
    rw (c.in_ok-set.ensures.ok, to_z-of_z w64 c.kept_number.result fits, c.is_some.ensures) (stand_set _ _ _ _ _ c.requires.stand c.kept_number.ensures.stands)

pub returns-clause-ok : goal.returns-clause-ok
returns-clause-ok c =
    let fits : FitsSigned w64 c.kept_number.result = search rules in
    rw (c.in_ok-set.ensures.ok, to_z-of_z w64 c.kept_number.result fits, c.is_some.ensures)
    (options_set _ _ _ _ _ ∙ ap (λ (o : Option ℤ). slice_set (options c.args.present.now c.args.numbers.now.items) c.args.i o) c.kept_number.ensures.again)
