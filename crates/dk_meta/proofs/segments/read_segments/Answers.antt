use Rattle.std.proofs.Common.{arith, refl}
use Rattle.std.proofs.lemmas.Result.{err_from_is_err_and}
use Rattle.dk_meta.specs.Strings.{always}
use Rattle.dk_meta.specs.Segments.{segment_at}
use Rattle.dk_meta.proofs.ListLemmas.{list_on, list_ends}
use Rattle.dk_meta.proofs.segments.read_segments.Goals as goal

pub segments-preserved : goal.segments-preserved
segments-preserved c = record {
  told = list_on (always segment_at) c.args.count c.segments.counter c.segments.segments.items _ _ c.in_ok-segment.segment _ _ c.segments-test.true c.segments.invariant.told c.in_ok-segment.ensures.reads c.in_ok-push.ensures.items;
  within = omega arith;
  count = omega (arith, c.in_ok-push.ensures.len, c.segments.invariant.count);
  behind = λ _. c.in_ok-segment.ensures.behind refl;
}

pub returns-in_err-segment-clause-reads : goal.returns-in_err-segment-clause-reads
returns-in_err-segment-clause-reads c =
    let p = err_from_is_err_and c.from_residual-in_err-segment.result c.from_residual-in_err-segment.ensures.1 in
    rw (p.1, p.2) (list_ends (always segment_at) c.args.count c.segments.counter c.segments.segments.items _ _ _ c.segments-test.true c.segments.invariant.told c.in_err-segment.ensures.reads)
