-- What the steps of a turn did, the call did so far.
use Rattle.std.proofs.Common.{rules, ◌∙◌}
use Rattle.std.proofs.lemmas.Result.{err_from_is_err_and}
use Rattle.dk_io.proofs.CallLemmas.{keeps_filled, keeps_moved, counts_filled, counts_stepped, stops_moving, goes_on}
use Rattle.dk_io.proofs.PassLemmas.{passes_on, passes_moved, passes_filled, passes_ended}
use Rattle.dk_io.proofs.lines.LineReader.read_on.Goals as goal

-- what was read ended no line yet
pub returns-in_err-fill : goal.returns-in_err-fill
returns-in_err-fill g c = record {
  line = search rules;
  kept = search rules;
  reason = search rules;
  much = search rules;
  end =
      let p = err_from_is_err_and c.from_residual.result c.from_residual.ensures.1 in
      rw (p.1) (goes_on _ _ _ _ _ _ (c.in_err-fill.ensures.counts.ended ∙ c.pieces.invariant.kept.going)
      (passes_on _ _ _ _ _ _ _ _ c.pieces.invariant.passes
      (passes_filled c.pieces.self c.fill.new.self _ _ c.pieces.invariant.held c.in_err-fill.ensures.fills.begun
      c.in_err-fill.ensures.fills.bytes)));
  counts =
      counts_filled _ _ _ _ _ _ _ _ _ c.pieces.invariant.counts c.in_err-fill.ensures.fills c.in_err-fill.ensures.counts;
}

-- a line that is past the limit when it is looked at was so before
pub returns-in_err-take_held : goal.returns-in_err-take_held
returns-in_err-take_held g c = record {
  line = search rules;
  kept = search rules;
  reason =
      let p = err_from_is_err_and c.from_residual-in_err-take_held.result c.from_residual-in_err-take_held.ensures.1 in
      let kept = keeps_filled _ _ _ _ _ _ _ c.pieces.invariant.kept c.pieces.invariant.held c.in_ok-fill.ensures.fills
      c.in_ok-fill.ensures.counts in
      rw (p.1, p.2) (stops_moving _ _ _ _ _ _ _ kept
      (c.in_ok-fill.ensures.counts.limit ∙ c.pieces.invariant.counts.limit) c.in_err-take_held.ensures.moved
      c.in_err-take_held.ensures.reason);
  much = search rules;
  end =
      let p = err_from_is_err_and c.from_residual-in_err-take_held.result c.from_residual-in_err-take_held.ensures.1 in
      rw (p.1) (goes_on _ _ _ _ _ _ (c.in_err-take_held.ensures.counts.ended ∙ c.in_ok-fill.ensures.counts.ended
      ∙ c.pieces.invariant.kept.going)
      (passes_on _ _ _ _ _ _ _ _
      (passes_on _ _ _ _ _ _ _ _ c.pieces.invariant.passes
      (passes_filled c.pieces.self c.fill.new.self _ _ c.pieces.invariant.held c.in_ok-fill.ensures.fills.begun
      c.in_ok-fill.ensures.fills.bytes))
      (passes_moved c.fill.new.self c.take_held.new.self (g.S.Source.left c.fill.new.source)
      c.in_err-take_held.ensures.moved)));
  counts =
      counts_stepped _ _ _ _ _ _ _ _
      (counts_filled _ _ _ _ _ _ _ _ _ c.pieces.invariant.counts c.in_ok-fill.ensures.fills
      c.in_ok-fill.ensures.counts) c.in_err-take_held.ensures.counts;
}

-- the line feed that is held ends a line, whatever follows
pub returns-then-branch : goal.returns-then-branch
returns-then-branch g c = record {
  line = search rules;
  kept = search rules;
  reason = search rules;
  much = search rules;
  end =
      goes_on _ _ _ _ _ _ (c.end_held.ensures.counts.ended ∙ c.in_ok-take_held.ensures.counts.ended
      ∙ c.in_ok-fill.ensures.counts.ended ∙ c.pieces.invariant.kept.going)
      (passes_on _ _ _ _ _ _ _ _
      (passes_on _ _ _ _ _ _ _ _
      (passes_on _ _ _ _ _ _ _ _ c.pieces.invariant.passes
      (passes_filled c.pieces.self c.fill.new.self _ _ c.pieces.invariant.held c.in_ok-fill.ensures.fills.begun
      c.in_ok-fill.ensures.fills.bytes))
      (passes_moved c.fill.new.self c.take_held.new.self (g.S.Source.left c.fill.new.source)
      c.in_ok-take_held.ensures.moved))
      (passes_ended c.take_held.new.self c.end_held.new.self _ (g.S.Source.left c.fill.new.source)
      c.end_held.ensures.line));
  counts =
      counts_stepped _ _ _ _ _ _ _ _
      (counts_stepped _ _ _ _ _ _ _ _
      (counts_filled _ _ _ _ _ _ _ _ _ c.pieces.invariant.counts c.in_ok-fill.ensures.fills
      c.in_ok-fill.ensures.counts) c.in_ok-take_held.ensures.counts) c.end_held.ensures.counts;
}

pub pieces-preserved : goal.pieces-preserved
pieces-preserved g c = record {
  held = search rules;
  fits = rw c.in_ok-take_held.ensures.counts.limit c.in_ok-take_held.ensures.fits;
  kept = keeps_moved _ _ _ _ _ _ _
      (keeps_filled _ _ _ _ _ _ _ c.pieces.invariant.kept c.pieces.invariant.held c.in_ok-fill.ensures.fills
      c.in_ok-fill.ensures.counts) c.in_ok-take_held.ensures.moved c.in_ok-take_held.ensures.counts;
  passes = passes_on _ _ _ _ _ _ _ _
      (passes_on _ _ _ _ _ _ _ _ c.pieces.invariant.passes
      (passes_filled c.pieces.self c.fill.new.self _ _ c.pieces.invariant.held c.in_ok-fill.ensures.fills.begun
      c.in_ok-fill.ensures.fills.bytes))
      (passes_moved c.fill.new.self c.take_held.new.self (g.S.Source.left c.fill.new.source)
      c.in_ok-take_held.ensures.moved);
  counts = counts_stepped _ _ _ _ _ _ _ _
      (counts_filled _ _ _ _ _ _ _ _ _ c.pieces.invariant.counts c.in_ok-fill.ensures.fills
      c.in_ok-fill.ensures.counts) c.in_ok-take_held.ensures.counts;
  within = search rules;
}
