use Rattle.std.proofs.Common.{◌∙◌, ap, cond, ◌≡◌, ◌++◌, length, replicate, subst, rules}
use Rattle.std.specs.Prelude.{◌-◌, nat_lt, slice_get}
use Rattle.dk_columns.specs.OptionTables.{with_rows}
use Rattle.dk_version.specs.Rows.{spare_row}
use Rattle.dk_vector.specs.Vectors.{VectorRows, vector_of}
use Rattle.dk_vector.specs.Spare.{room_at, values_if, AreFreshFrom}
use Rattle.dk_vector.proofs.SpareLemmas.{reserve_fresh, reserve_room}
use Rattle.dk_vector.proofs.vector.Vector.reserve.Goals as goal

pub returns-clause-fresh : goal.returns-clause-fresh
returns-clause-fresh c =
    let inside = c.self.inside in
    let stamps : c.add_spare.new.self.rows ≡ inside.stamps.rows ++ replicate c.len.result spare_row = search rules in
    subst (λ (v : VectorRows). AreFreshFrom (length v.stamps.rows) (vector_of c.append.new.self inside.chain c.add_spare.new.self)) c.self.view_is
    (reserve_fresh inside.base.kinds (length inside.base.rows) c.len.result (vector_of c.append.new.self inside.chain c.add_spare.new.self) inside.stamps.rows c.self.invariant.even c.self.invariant.nodes stamps)

pub returns-clause-room : goal.returns-clause-room
returns-clause-room c =
    let inside = c.self.inside in
    let more = c.args.rows.now.rows in
    let base : c.append.new.self ≡ with_rows more inside.base = search rules in
    let stamps : c.add_spare.new.self.rows ≡ inside.stamps.rows ++ replicate (length more) spare_row = search rules in
    λ row.
    reserve_room row inside.base c.append.new.self more inside.stamps.rows c.add_spare.new.self.rows c.self.invariant.even base stamps
    ∙ ap (λ (v : VectorRows). cond (nat_lt row (length v.stamps.rows)) (room_at v row) (values_if (slice_get more (row - length v.stamps.rows)))) c.self.view_is
