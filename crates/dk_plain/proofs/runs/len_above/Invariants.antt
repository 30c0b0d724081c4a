-- The items so far ascend from above the key on, and the last has the greatest key.
use Rattle.std.proofs.Common.{◌≡◌, ◌≤◌, take, true}
use Rattle.std.specs.Prelude.{nat_le, nat_lt}
use Rattle.std.specs.List.{list_all}
use Rattle.dk_si.specs.Nets.{rises}
use Rattle.dk_plain.proofs.runs.len_above.Given as goal

abbrev pub invariant-loop-item : goal.invariant-loop-item
invariant-loop-item g l =
    (l.count ≡ l.item-index) × (l.low ≤ l.greatest)
    × (list_all (λ item. nat_lt l.low (g.T.Keyed.key item)) (take l.item-index l.items) ≡ true)
    × (list_all (λ item. nat_le (g.T.Keyed.key item) l.greatest) (take l.item-index l.items) ≡ true)
    × (rises g.T.Keyed.key (take l.item-index l.items) ≡ true)
