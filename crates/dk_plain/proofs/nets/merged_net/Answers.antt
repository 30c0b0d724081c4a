-- The parts are the net's with the change in their place, so they are a net.
use Rattle.std.proofs.Common.{subst, sym}
use Rattle.dk_types.specs.Nets.{IsNet}
use Rattle.dk_si.proofs.MergedNetLemmas.{net_is}
use Rattle.dk_plain.proofs.nets.merged_net.Goals as goal

pub from_vec-requires : goal.from_vec-requires
from_vec-requires c =
    net_is c.in_ok-parts.parts.items c.args.count c.as_slice.result.now c.args.change.now c.in_ok-parts.ensures
    (subst IsNet (sym c.as_slice.ensures.parts) c.as_slice.ensures.lawful)
