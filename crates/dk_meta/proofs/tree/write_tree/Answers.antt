use Rattle.std.proofs.Common.{[]}
use Rattle.dk_meta.proofs.TreeLemmas.{entries_named}
use Rattle.dk_meta.proofs.tree.write_tree.Goals as goal

pub put_tree-requires-clause-names : goal.put_tree-requires-clause-names
put_tree-requires-clause-names c = entries_named [] c.args.tree.now c.requires.each
