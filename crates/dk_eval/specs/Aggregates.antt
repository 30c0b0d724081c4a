-- What an aggregate makes of values: a fold, which takes one value after another.
use Rattle.std.specs.Prelude.{ℕ, ◌+◌, ◌==◌, ℤ, pos, ◌+ℤ◌, Bool, false, ◌||◌, List, fold, Some, None, unwrap_or, if◌then◌else◌}
use Rattle.std.specs.Ordering.{is_lt}
use Rattle.dk_values.specs.declared.value.Value.{Value}
use Rattle.dk_values.specs.declared.value.Value.TheVariants as value
use Rattle.dk_syntax.specs.declared.query.FoldKind.{FoldKind}
use Rattle.dk_syntax.specs.declared.query.FoldKind.TheVariants.{Count, Sum, Min, Max}
use Rattle.dk_eval.specs.Values.{is_null, number_of, order_of}

-- the values that were taken so far: how many were not null, the sum of their numbers, and the best of them
pub record Taken : Type 0 where
  pub kind : FoldKind
  pub seen : ℕ
  pub total : ℤ
  pub best : Value

abbrev pub nothing : FoldKind → Taken
nothing kind = record { kind = kind; seen = 0; total = pos 0; best = value.Null }

-- the first goes before the second
abbrev pub precedes : Value → Value → Bool
precedes left right = elim (order_of left right) [ None ↦ false | Some order ↦ is_lt order ]

-- a value takes the place of the best so far
abbrev pub replaces : FoldKind → Value → Value → Bool
replaces Min v best = is_null best || precedes v best
replaces Max v best = is_null best || precedes best v
replaces _ v best = false

abbrev pub better : FoldKind → Value → Value → Value
better kind best v = if replaces kind v best then v else best

-- one value more; null is passed over
abbrev pub take_value : Taken → Value → Taken
take_value taken v =
    if is_null v then taken else record {
      kind = taken.kind;
      seen = taken.seen + 1;
      total = taken.total +ℤ unwrap_or (number_of v) (pos 0);
      best = better taken.kind taken.best v;
    }

-- count is a number of 64 bits, sum one of 128 and null over nothing, and so are min and max
abbrev pub result_of : Taken → Value
result_of taken = elim taken.kind [
  | Count ↦ value.Big (pos taken.seen)
  | Sum ↦ if taken.seen == 0 then value.Null else value.Huge taken.total
  | Min ↦ taken.best
  | Max ↦ taken.best
]

-- an aggregate over values
abbrev pub aggregate : FoldKind → List Value → Value
aggregate kind values = result_of (fold take_value (nothing kind) values)
