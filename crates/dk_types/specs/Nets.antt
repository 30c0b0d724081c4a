-- What a transaction has changed, table by table.
use Rattle.std.specs.Prelude.{◌≡◌, ℕ, ◌+◌, Bool, true, List, [], ◌∷◌, length, not, ◌&&◌, nat_lt, ◌==◌}
use Rattle.std.specs.List.{list_all}
use Rattle.dk_types.specs.declared.net.TableNet.{TableNet}

-- a part of a net changes something
abbrev pub changes : TableNet → Bool
changes part = not (length part.updates + length part.deletes + length part.rows == 0)

-- every part stands for a table below this one
abbrev pub all_below : ℕ → List TableNet → Bool
all_below table parts = list_all (λ part. nat_lt part.table table) parts

-- every part stands for a table above this one
abbrev pub all_above : ℕ → List TableNet → Bool
all_above table parts = list_all (λ part. nat_lt table part.table) parts

-- the tables ascend
abbrev pub ascends : List TableNet → Bool
ascends [] = true
ascends (part ∷ parts) = all_above part.table parts && ascends parts

-- the tables ascend, and each part changes something
abbrev pub IsNet : List TableNet → Type 0
IsNet parts = (ascends parts ≡ true) × (list_all changes parts ≡ true)
