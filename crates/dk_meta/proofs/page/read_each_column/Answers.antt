use Rattle.std.proofs.Common.{arith}
use Rattle.std.proofs.lemmas.Result.{err_from_is_err_and}
use Rattle.dk_meta.specs.Strings.{always}
use Rattle.dk_meta.specs.Segments.{vectors_at}
use Rattle.dk_meta.proofs.ListLemmas.{list_on, list_ends}
use Rattle.dk_meta.proofs.page.read_each_column.Goals as goal

pub columns-preserved : goal.columns-preserved
columns-preserved c = record {
  told = list_on (always (vectors_at c.args.rows)) c.args.count c.columns.counter c.columns.columns.items _ _ c.in_ok-vectors.vectors _ _ c.columns-test.true c.columns.invariant.told c.in_ok-vectors.ensures c.in_ok-push.ensures.items;
  within = omega arith;
}

pub returns-in_err-vectors : goal.returns-in_err-vectors
returns-in_err-vectors c =
    let p = err_from_is_err_and c.from_residual-in_err-vectors.result c.from_residual-in_err-vectors.ensures.1 in
    rw (p.1, p.2) (list_ends (always (vectors_at c.args.rows)) c.args.count c.columns.counter c.columns.columns.items _ _ _ c.columns-test.true c.columns.invariant.told c.in_err-vectors.ensures)
