-- What is kept so far, and what is kept of the rest.
use Rattle.std.proofs.Common.{◌≡◌, ◌++◌, drop, map}
use Rattle.std.specs.List.{filter}
use Rattle.std.specs.Prelude.{nat_lt, not}
use Rattle.dk_plain.proofs.nets.own.Given as goal

abbrev pub invariant-loop-item : goal.invariant-loop-item
invariant-loop-item g l =
    l.kept.items ++ map (g.T.Placed.moved l.count) (filter (λ item. not (nat_lt (g.T.Keyed.key item) l.count)) (drop
    l.item-index l.items))
    ≡ map (g.T.Placed.moved l.count) (filter (λ item. not (nat_lt (g.T.Keyed.key item) l.count)) l.items)
