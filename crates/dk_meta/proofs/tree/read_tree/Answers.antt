use Rattle.std.proofs.Common.{arith}
use Rattle.dk_meta.specs.Tree.{IsTree, tree_bytes, tree_at}
use Rattle.dk_meta.proofs.TreeLemmas.{tree_field}
use Rattle.dk_meta.proofs.StringLemmas.{string_found, string_only}
use Rattle.dk_meta.proofs.tree.read_tree.Goals as goal

pub returns-clause-found : goal.returns-clause-found
returns-clause-found c =
    string_found tree_at IsTree tree_bytes tree_field (λ x. x) c.whole_tree.result c.args.bytes.now c.whole_tree.ensures
    (λ i. omega (arith, c.type_inv.bytes i))

pub returns-clause-only : goal.returns-clause-only
returns-clause-only c =
    string_only tree_at IsTree tree_bytes tree_field (λ x. x) c.whole_tree.result c.args.bytes.now c.whole_tree.ensures
