use Rattle.std.proofs.Common.{arith}
use Rattle.dk_wal.proofs.LengthLemmas.{ids_total}
use Rattle.dk_wal.proofs.payload_size.ids_len.Goals as goal

pub returns : goal.returns
returns c = grind (arith, ids_total c.args.ids.now, c.saturating_mul.ensures, c.saturating_add.ensures)
