use Rattle.std.proofs.Common.{arith, ◌+◌, ◌-◌, []}
use Rattle.std.proofs.lemmas.Result.{err_from_is_err_and}
use Rattle.dk_bytes.proofs.OutcomeLemmas.{fails_then}
use Rattle.dk_bytes.proofs.SpellLemmas.{list_step, list_fault}
use Rattle.dk_wal.proofs.AscendingLemmas.{follow_more}
use Rattle.dk_wal.proofs.each.read_each.Goals as goal

pub things-preserved : goal.things-preserved
things-preserved g c = record {
  told = rw c.in_ok-push.ensures.items
      (list_step (g.T.Next.read_at c.args.context.now) c.things.things.items c.in_ok-thing.thing (c.args.count - c.things.counter)
      (c.args.count - (c.things.counter + 1)) _ _ _ (omega (arith, c.things-test.true))
      (rw c.as_slice.ensures.value at c.in_ok-thing.ensures.reads) c.things.invariant.told);
  within = omega arith;
  follow = rw c.in_ok-push.ensures.items
      (follow_more g.T.Next.fits_behind [] c.things.things.items c.in_ok-thing.thing c.things.invariant.follow
      (rw c.as_slice.ensures.value at c.in_ok-thing.ensures.behind));
}

pub returns-in_err-thing-clause-reads : goal.returns-in_err-thing-clause-reads
returns-in_err-thing-clause-reads g c =
    let p = err_from_is_err_and c.from_residual.result c.from_residual.ensures.1 in
    rw (p.1, p.2) (fails_then _ _ _
    (list_fault (g.T.Next.read_at c.args.context.now) c.things.things.items (c.args.count - c.things.counter)
    (c.args.count - (c.things.counter + 1)) _ _ (omega (arith, c.things-test.true)) c.things.invariant.told)
    (rw c.as_slice.ensures.value at c.in_err-thing.ensures.reads))
