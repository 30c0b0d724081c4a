use Rattle.std.proofs.Common.{◌∙◌, subst}
use Rattle.dk_columns.specs.declared.cells.Storage.{Storage}
use Rattle.dk_columns.specs.declared.cells.Storage.TheVariants as storage
use Rattle.dk_columns.specs.Stored.{IsStored}
use Rattle.dk_columns.proofs.ColumnLemmas.{numbers_present, texts_present}
use Rattle.dk_columns.proofs.cells.present_in.Goals as goal

pub returns-in-Numbers : goal.returns-in-Numbers
returns-in-Numbers c =
    let stored : IsStored c.args.kind (storage.Numbers c.in-Numbers.numbers) = subst (λ (s : Storage). IsStored c.args.kind s) c.in-Numbers.is c.requires in
    rw c.in-Numbers.is (c.present.ensures ∙ numbers_present c.args.kind c.in-Numbers.numbers stored.0)

pub returns-in-Texts : goal.returns-in-Texts
returns-in-Texts c = rw c.in-Texts.is (c.present-in-Texts.ensures ∙ texts_present c.in-Texts.texts)
