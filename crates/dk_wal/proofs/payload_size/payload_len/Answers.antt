-- A net's record weighs what the machine says.
use Rattle.std.proofs.Common.{rules, sym, subst}
use Rattle.dk_wal.specs.Weights.{HasWeight}
use Rattle.dk_wal.proofs.WeightLemmas.{payload_weight}
use Rattle.dk_wal.proofs.payload_size.payload_len.Goals as goal

pub returns-clause-weight : goal.returns-clause-weight
returns-clause-weight c = subst (HasWeight c.args.commit.now) (sym c.bytes_len.ensures) (payload_weight c.args.commit.now)
