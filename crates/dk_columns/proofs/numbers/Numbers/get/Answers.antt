use Rattle.std.proofs.Common.{◌<◌, ℤ, List, Option, Some, length, ap, sym, ◌∙◌, rules, FitsSigned, arith}
use Rattle.std.specs.Prelude.{slice_get}
use Rattle.std.specs.Int.{w64}
use Rattle.std.proofs.lemmas.Int.{to_z-of_z}
use Rattle.dk_rows.proofs.RowLemmas.{indexed}
use Rattle.dk_columns.specs.Options.{option_if}
use Rattle.dk_columns.proofs.OptionsLemmas.{options_len, stand_len, option_at}
use Rattle.dk_columns.proofs.numbers.Numbers.get.Goals as goal

pub get-requires : goal.get-requires
get-requires c =
    let len = ap (λ (os : List (Option ℤ)). length os) c.self.view_is in
    let all = stand_len c.self.inside.present c.self.inside.numbers.items c.self.invariant in
    let shown = options_len c.self.inside.present c.self.inside.numbers.items all in
    omega (arith, c.requires, len, all, shown)

pub index-requires : goal.index-requires
index-requires c =
    let len = ap (λ (os : List (Option ℤ)). length os) c.self.view_is in
    let all = stand_len c.self.inside.present c.self.inside.numbers.items c.self.invariant in
    let shown = options_len c.self.inside.present c.self.inside.numbers.items all in
    omega (arith, c.requires, len, all, shown, c.self.inside.numbers.ok.0)

pub returns : goal.returns
returns c =
    let len = ap (λ (os : List (Option ℤ)). length os) c.self.view_is in
    let all = stand_len c.self.inside.present c.self.inside.numbers.items c.self.invariant in
    let shown = options_len c.self.inside.present c.self.inside.numbers.items all in
    let within : c.args.i < length c.self.inside.numbers.items = omega (arith, c.requires, len, shown) in
    let fits : FitsSigned w64 c.index.result.now = search rules in
    ap (λ (os : List (Option ℤ)). slice_get os c.args.i) (sym c.self.view_is)
    ∙ option_at _ _ c.args.i _ _ c.get.ensures (indexed _ _ _ within c.index.ensures)
    ∙ ap Some (ap (λ (n : ℤ). option_if c.get.result n) (sym (to_z-of_z w64 c.index.result.now fits)) ∙ sym c.number_if.ensures)
