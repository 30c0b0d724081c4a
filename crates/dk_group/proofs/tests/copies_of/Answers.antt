use Rattle.std.proofs.Common.{[], ◌∷◌, List, length, ap, sym, subst, arith, length-append}
use Rattle.std.specs.List.{All}
use Rattle.std.proofs.lemmas.List.Elements.{All-append, All-cons, All-nil}
use Rattle.dk_values.specs.declared.value.ColType.{ColType}
use Rattle.dk_values.specs.declared.value.ColType.TheVariants as types
use Rattle.dk_columns.specs.OptionTables.{FitsKinds}
use Rattle.dk_group.proofs.tests.copies_of.Goals as goal

abbrev pair : List ColType
pair = types.Big ∷ types.Big ∷ []

pub copies-preserved : goal.copies-preserved
copies-preserved c =
    let more = c.in_ok-push.ensures.ok in
    let row = c.in_ok-row_of.field-0 in
    record {
      count = omega (arith, ap length more, length-append c.copies.rows (row ∷ []), c.copies.invariant.count);
      fits = subst (All (FitsKinds pair)) (sym more)
          (All-append (FitsKinds pair) c.copies.rows (row ∷ []) c.copies.invariant.fits (All-cons (FitsKinds pair) row [] c.in_ok-row_of.ensures (All-nil (FitsKinds pair))));
    }
