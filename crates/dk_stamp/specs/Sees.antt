-- Which stamps a snapshot sees.
use Rattle.std.specs.Prelude.{ℕ, Bool, ◌||◌, ◌==◌, nat_le, List}
use Rattle.std.specs.List.{list_any}
use Rattle.dk_stamp.specs.declared.snapshot.Pending.{Pending}
use Rattle.dk_stamp.specs.declared.snapshot.Snapshot.{Snapshot}

-- a pending commit is of the transaction of this stamp
abbrev pub is_pending : List Pending → ℕ → Bool
is_pending committing stamp = list_any (λ pending. pending.id == stamp) committing

-- the transaction's own stamp, one up to its start, and that of a commit that was pending
abbrev pub sees : Snapshot → ℕ → Bool
sees snapshot stamp =
    stamp == snapshot.id || (nat_le stamp snapshot.start || is_pending snapshot.committing stamp)
