use Rattle.std.proofs.Common.{[], ◌∷◌, List, Some, ap, ◌∙◌, sym, subst}
use Rattle.std.specs.List.{All}
use Rattle.std.proofs.lemmas.List.Elements.{All-append, All-cons, All-nil}
use Rattle.dk_values.specs.declared.value.ColType.{ColType}
use Rattle.dk_values.specs.declared.value.ColType.TheVariants as types
use Rattle.dk_columns.specs.OptionTables.{OptionTable}
use Rattle.dk_vector.specs.Vectors.{IsRow}
use Rattle.dk_group.proofs.tests.rows_of.Goals as goal

abbrev pair : List ColType
pair = types.Big ∷ types.Big ∷ []

pub digits-preserved : goal.digits-preserved
digits-preserved c =
    let more = c.in_ok-push.ensures.ok in
    record {
      kinds = ap (λ (t : OptionTable). t.kinds) more ∙ c.digits.invariant.kinds;
      there = subst (λ (t : OptionTable). All (IsRow pair) t.rows) (sym more)
          (All-append (IsRow pair) c.digits.rows.rows (Some c.in_ok-row.row ∷ []) c.digits.invariant.there (All-cons (IsRow pair) (Some c.in_ok-row.row) [] c.in_ok-row.ensures (All-nil (IsRow pair))));
    }
