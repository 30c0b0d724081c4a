use Rattle.std.proofs.Common.{[], subst}
use Rattle.dk_columns.specs.OptionTables.{OptionTable}
use Rattle.dk_stamp.specs.Sees.{sees}
use Rattle.dk_vector.specs.Vectors.{VectorRows}
use Rattle.dk_vector.specs.Pages.{IsPutBack, IsPage}
use Rattle.dk_vector.proofs.PageLemmas.{page_is}
use Rattle.dk_vector.proofs.vector.Vector.read.Goals as goal

pub returns : goal.returns
returns c =
    let seen = sees c.args.snapshot.now in
    let written : IsPutBack seen c.self.inside.chain [] c.self.inside.base c.write_back.new.rows =
    subst (λ (t : OptionTable). IsPutBack seen c.self.inside.chain [] t c.write_back.new.rows) c.in_ok-page.ensures c.in_ok-write_back.ensures in
    subst (λ (v : VectorRows). IsPage seen v c.hide_rows.new.rows) c.self.view_is
    (page_is seen c.requires.never c.self.inside.base c.write_back.new.rows c.hide_rows.new.rows c.self.inside.chain c.self.inside.stamps c.self.invariant written c.in_ok-hide_rows.ensures)
