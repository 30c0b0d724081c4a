use Rattle.std.proofs.Common.{ℤ, Some, fold, ap, ◌∙◌, rules, FitsSigned}
use Rattle.std.specs.Int.{w64}
use Rattle.std.proofs.lemmas.Int.{to_z-of_z}
use Rattle.dk_scans.specs.Extremes.{number_key, lower_key}
use Rattle.dk_scans.specs.Selection.{select}
use Rattle.dk_scans.proofs.ExtremeLemmas.{lowest_is}
use Rattle.dk_scans.proofs.extremes.best_number.Goals as goal

pub returns : goal.returns
returns c =
    let extreme = c.args.extreme in
    let selected = select c.args.flags.now c.args.numbers.now in
    let first : FitsSigned w64 c.in_ok-first.first = search rules in
    let first_key : FitsSigned w64 c.key.result = search rules in
    let lowest : FitsSigned w64 c.lowest_key-lowest.result = search rules in
    let found : FitsSigned w64 c.key-2.result = search rules in
    let start = to_z-of_z w64 c.key.result first_key ∙ c.key.ensures ∙ ap (number_key extreme) (to_z-of_z w64 c.in_ok-first.first first) in
    let end = to_z-of_z w64 c.lowest_key-lowest.result lowest ∙ c.lowest_key-lowest.ensures ∙ ap (λ (k : ℤ). fold (lower_key extreme) k selected) start in
    ap (λ (n : ℤ). Some n) (to_z-of_z w64 c.key-2.result found ∙ c.key-2.ensures ∙ ap (number_key extreme) end)
    ∙ lowest_is extreme c.in_ok-first.first selected c.in_ok-first.ensures
