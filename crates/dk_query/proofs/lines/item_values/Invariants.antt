-- The values so far, with those of the items that are left, are those of all.
use Rattle.std.proofs.Common.{◌≡◌, drop, ◌++◌}
use Rattle.std.specs.Prelude.{option_map}
use Rattle.dk_query.specs.Kept.{item_values}
use Rattle.dk_query.proofs.lines.item_values.Given as goal

abbrev pub invariant-items : goal.invariant-items
invariant-items l =
    option_map (λ values. l.values ++ values) (item_values l.row (drop l.item-index l.items)) ≡ item_values l.row l.items
