use Rattle.std.proofs.Common.{◌∙◌, subst}
use Rattle.dk_columns.specs.declared.cells.Storage.{Storage}
use Rattle.dk_columns.specs.declared.cells.Storage.TheVariants as storage
use Rattle.dk_columns.specs.Stored.{IsStored}
use Rattle.dk_columns.proofs.ColumnLemmas.{numbers_of_values}
use Rattle.dk_columns.proofs.cells.numbers_in.Goals as goal

pub returns-in-Numbers-clause-numbers : goal.returns-in-Numbers-clause-numbers
returns-in-Numbers-clause-numbers c =
    let stored : IsStored c.args.kind (storage.Numbers c.in-Numbers.numbers) = subst (λ (s : Storage). IsStored c.args.kind s) c.in-Numbers.is c.requires in
    rw c.in-Numbers.is (c.numbers.ensures ∙ numbers_of_values c.args.kind c.in-Numbers.numbers stored.1)
