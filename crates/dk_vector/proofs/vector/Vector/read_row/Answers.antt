use Rattle.std.proofs.Common.{ap, ◌∙◌, sym}
use Rattle.std.specs.Prelude.{slice_get}
use Rattle.dk_stamp.specs.Sees.{sees}
use Rattle.dk_chain.specs.Nodes.{nodes_at}
use Rattle.dk_vector.specs.Stacks.{read}
use Rattle.dk_vector.specs.Vectors.{VectorRows, stack_at, base_at, or_base}
use Rattle.dk_vector.proofs.ReadLemmas.{read_there}
use Rattle.dk_vector.proofs.vector.Vector.read_row.Goals as goal

pub returns : goal.returns
returns c =
    let row = c.args.row in
    let seen = sees c.args.snapshot.now in
    let base = base_at row c.self.inside.base in
    read_there seen c.get.result (slice_get c.self.inside.stamps.rows row) base c.in_ok-values.values (nodes_at row c.self.inside.chain)
    c.requires.never c.get.ensures (sym c.if-not-is_there.false ∙ c.is_there.ensures) (c.self.invariant.first row)
    (c.in_ok-values.ensures ∙ ap (or_base base) c.old.ensures)
    ∙ ap (λ (v : VectorRows). read seen (stack_at v row)) c.self.view_is
