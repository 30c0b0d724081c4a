use Rattle.std.proofs.Common.{arith}
use Rattle.std.proofs.lemmas.Result.{err_from_is_err_and}
use Rattle.dk_meta.specs.Segments.{next_vector_at}
use Rattle.dk_meta.proofs.ListLemmas.{list_on, list_ends}
use Rattle.dk_meta.proofs.segments.read_each.Goals as goal

pub vectors-preserved : goal.vectors-preserved
vectors-preserved c = record {
  told = list_on (next_vector_at c.args.rows) c.args.count c.vectors.counter c.vectors.vectors.items _ _ c.in_ok-vector.vector _ _ c.vectors-test.true c.vectors.invariant.told (rw c.as_slice.ensures.value at c.in_ok-vector.ensures) c.in_ok-push.ensures.items;
  within = omega arith;
  count = omega (arith, c.in_ok-push.ensures.len, c.vectors.invariant.count);
}

pub returns-in_err-vector : goal.returns-in_err-vector
returns-in_err-vector c =
    let p = err_from_is_err_and c.from_residual-in_err-vector.result c.from_residual-in_err-vector.ensures.1 in
    rw (p.1, p.2) (list_ends (next_vector_at c.args.rows) c.args.count c.vectors.counter c.vectors.vectors.items _ _ _ c.vectors-test.true c.vectors.invariant.told (rw c.as_slice.ensures.value at c.in_err-vector.ensures))
