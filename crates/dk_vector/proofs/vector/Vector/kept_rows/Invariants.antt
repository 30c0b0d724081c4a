use Rattle.std.proofs.Common.{◌≡◌, ◌-◌, length}
use Rattle.dk_vector.specs.Spare.{is_kept, last_where}
use Rattle.dk_vector.proofs.vector.Vector.kept_rows.Given as goal

abbrev pub invariant-rows : goal.invariant-rows
invariant-rows l = last_where (is_kept l.self) (length l.self.stamps.rows - l.k) ≡ last_where (is_kept l.self) (length l.self.stamps.rows)
