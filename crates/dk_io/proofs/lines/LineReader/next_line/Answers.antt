-- What was held already needs no piece of the source.
use Rattle.std.proofs.Common.{ap, [], ◌∙◌, rules}
use Rattle.std.proofs.lemmas.Result.{err_from_is_err_and}
use Rattle.dk_io.specs.ReaderState.{ReaderState}
use Rattle.dk_io.proofs.CallLemmas.{begins, stops_moving, goes_on}
use Rattle.dk_io.proofs.PassLemmas.{passes_on, passes_moved, passes_ended, moves_from}
use Rattle.dk_io.proofs.lines.LineReader.next_line.Goals as goal

-- a line that is past the limit when it is looked at was so before
pub returns-in_err-take_held-clause-goes_on : goal.returns-in_err-take_held-clause-goes_on
returns-in_err-take_held-clause-goes_on g c = record {
  line = search rules;
  kept = search rules;
  reason =
      let p = err_from_is_err_and c.from_residual.result c.from_residual.ensures.1 in
      rw (p.1, p.2) (stops_moving g.S.Source c.args.self.now c.begin_call.new.self c.take_held.new.self
      c.args.source.now c.args.source.now _ (begins _ _ _ _ c.begin_call.ensures)
      (ap (λ (r : ReaderState). r.limit) c.begin_call.ensures) c.in_err-take_held.ensures.moved
      c.in_err-take_held.ensures.reason);
  much = search rules;
  end = search rules;
  counts = search rules;
}

-- the line feed that is held ends a line, whatever follows
pub returns-then-branch-clause-goes_on : goal.returns-then-branch-clause-goes_on
returns-then-branch-clause-goes_on g c = record {
  line = search rules;
  kept = search rules;
  reason = search rules;
  much = search rules;
  end =
      goes_on _ _ _ _ _ _ (c.end_held.ensures.counts.ended ∙ c.in_ok-take_held.ensures.counts.ended
      ∙ ap (λ (r : ReaderState). r.ended) c.begin_call.ensures)
      (passes_on c.args.self.now c.take_held.new.self c.end_held.new.self (g.S.Source.left c.args.source.now)
      (g.S.Source.left c.args.source.now) (g.S.Source.left c.args.source.now) [] _
      (passes_moved c.args.self.now c.take_held.new.self (g.S.Source.left c.args.source.now)
      (moves_from c.args.self.now c.begin_call.new.self c.take_held.new.self c.begin_call.ensures
      c.in_ok-take_held.ensures.moved))
      (passes_ended c.take_held.new.self c.end_held.new.self _ (g.S.Source.left c.args.source.now)
      c.end_held.ensures.line));
  counts = search rules;
}
