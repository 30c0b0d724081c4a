use Rattle.std.proofs.Common.{length, ap, arith}
use Rattle.dk_columns.specs.Columns.{Column}
use Rattle.dk_columns.proofs.PutLemmas.{set_put, push_put}
use Rattle.dk_columns.proofs.shared_cells.SharedCells.put.Goals as goal

pub returns-then-i-len-clause-ok : goal.returns-then-i-len-clause-ok
returns-then-i-len-clause-ok c =
    let size = ap (λ (k : Column). length k.values) c.cells.ensures in
    set_put c.set.result _ _ c.args.self.now _ c.set.ensures.ok (omega (arith, c.if-i-len.true, c.len.ensures, size))

pub returns-else-i-len-clause-ok : goal.returns-else-i-len-clause-ok
returns-else-i-len-clause-ok c =
    let size = ap (λ (k : Column). length k.values) c.cells.ensures in
    push_put c.push.result _ _ c.args.self.now _ c.push.ensures.ok (omega (arith, c.if-i-len.false, c.requires.within, c.len.ensures, size))
