-- The tree of the grammar is answered.
use Rattle.std.proofs.Common.{arith}
use Rattle.dk_device.specs.declared.device.FileId.TheVariants.{Main}
use Rattle.dk_recover.proofs.TreeLemmas.{stored_only}
use Rattle.dk_recover.proofs.tree.read_tree.Goals as goal

pub returns-clause-only : goal.returns-clause-only
returns-clause-only g c =
    stored_only (g.D.Disk.content c.args.disk.now Main) c.args.root c.args.man.now.used c.read_stored.result
    (λ e. omega (arith, e, c.if-root-eq-NO_ROOT.false)) c.read_stored.ensures.exact
