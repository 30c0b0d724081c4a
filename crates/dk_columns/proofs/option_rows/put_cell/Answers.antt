use Rattle.dk_columns.proofs.PutLemmas.{long_at, kind_at, cell_put}
use Rattle.dk_columns.proofs.option_rows.put_cell.Goals as goal

pub put-requires-clause-within : goal.put-requires-clause-within
put-requires-clause-within c = (long_at c.args.i c.args.j c.args.columns.now.items c.index_mut.result.now c.requires.long c.requires.column c.index_mut.ensures.value).long

pub put-requires-clause-kind : goal.put-requires-clause-kind
put-requires-clause-kind c = kind_at c.args.j c.args.columns.now.items c.index_mut.result.now _ c.requires.kind c.requires.column c.index_mut.ensures.value

pub returns-clause-ok : goal.returns-clause-ok
returns-clause-ok c = cell_put c.put.result c.args.j c.args.i _ c.args.columns.now.items c.index_mut.result.now _ c.requires.column c.index_mut.ensures.value c.put.ensures.ok
