use Rattle.std.proofs.Common.{◌≡◌, ℤ, List, Option, Some, ap, sym, subst}
use Rattle.std.specs.List.{All}
use Rattle.dk_values.specs.declared.value.ColType.{ColType}
use Rattle.dk_columns.specs.Columns.{Column}
use Rattle.dk_columns.specs.Stored.{IsNumber, IsNumeric}
use Rattle.dk_columns.proofs.StoredLemmas.{all_mapped}
use Rattle.dk_columns.proofs.cells.Cells.put_numbers.Goals as goal

pub invariant_of-self : goal.invariant_of-self
invariant_of-self c =
    let kind : c.self.inside.kind ≡ c.args.self.now.kind = ap (λ (column : Column). column.kind) c.self.view_is in
    let all : All (IsNumber c.args.self.now.kind) c.from_vec.result =
    subst (λ (os : List (Option ℤ)). All (IsNumber c.args.self.now.kind) os) (sym c.from_vec.ensures) (all_mapped (IsNumber c.args.self.now.kind) (λ (n : ℤ). Some n) c.args.numbers.items c.requires.numbers) in
    subst (λ (k : ColType). IsNumeric k × All (IsNumber k) c.from_vec.result) (sym kind) (c.requires.numeric, all)
