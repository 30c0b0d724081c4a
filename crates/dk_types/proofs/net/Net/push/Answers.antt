-- Behind a net comes a part that changes something, or memory is wanting and the net stays.
use Rattle.std.proofs.Common.{◌≡◌, true, List, sym, subst}
use Rattle.dk_types.specs.declared.net.TableNet.{TableNet}
use Rattle.dk_types.specs.Nets.{all_below}
use Rattle.dk_types.proofs.NetLemmas.{net_pushed}
use Rattle.dk_types.proofs.net.Net.push.Goals as goal

pub invariant_of-self : goal.invariant_of-self
invariant_of-self c =
    let IsBelow : List TableNet → Type 0 = λ parts. all_below c.args.part.table parts ≡ true in
    let below = subst IsBelow (sym c.self.view_is) c.requires.above in
    let push = c.push in
    net_pushed push.result _ _ c.args.part push.ensures.ok push.ensures.err c.self.invariant c.requires.changes below
