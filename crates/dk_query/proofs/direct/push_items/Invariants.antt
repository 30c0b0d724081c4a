-- The values so far, with those of the items that are left, are those of all.
use Rattle.std.proofs.Common.{◌≡◌, drop, ◌++◌}
use Rattle.std.specs.Prelude.{option_map}
use Rattle.dk_query.specs.Kept.{item_values}
use Rattle.dk_query.proofs.direct.push_items.Given as goal

abbrev pub invariant-items : goal.invariant-items
invariant-items l =
    option_map (λ more. l.values ++ more) (item_values l.row (drop l.item-index l.items))
    ≡ option_map (λ more. l.fn.values ++ more) (item_values l.row l.items)
