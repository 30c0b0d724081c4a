-- The run goes on from the lines that were answered so far.
use Rattle.std.proofs.Common.{Ok, ap, arith}
use Rattle.dk_io.proofs.ReaderLemmas.{counts_on}
use Rattle.dk_script.proofs.ProgressLemmas.{progress_more, progress_end, progress_stop}
use Rattle.dk_script.proofs.run.answer_lines.Goals as goal

pub lines-preserved : goal.lines-preserved
lines-preserved g c = record {
  ready = c.in-Ok-true.ensures.ready;
  known = progress_more g.R.Runner.stands c.lines.run c.answer_next_line.new.run (g.K.Sink.taken c.args.sink.now)
      (g.K.Sink.taken c.lines.sink) (g.K.Sink.taken c.answer_next_line.new.sink)
      (g.S.Source.left c.args.source.now) (g.S.Source.left c.lines.source)
      (g.S.Source.left c.answer_next_line.new.source)
      c.lines.invariant.known (c.in-Ok-true.ensures.more (ap Ok c.in-Ok-true.field-0-test));
  taken = counts_on _ _ _ _ _ _ c.lines.invariant.taken c.in-Ok-true.ensures.counts.counts.taken;
  source_later = omega (arith, c.in-Ok-true.ensures.counts.counts.later, c.lines.invariant.source_later);
  sink_later = omega (arith, c.in-Ok-true.ensures.later, c.lines.invariant.sink_later);
}

pub returns-in-Ok-false-clause-replies : goal.returns-in-Ok-false-clause-replies
returns-in-Ok-false-clause-replies g c =
    progress_end g.R.Runner.stands g.met.R.Runner.legal c.lines.run c.answer_next_line.new.run
    (g.K.Sink.taken c.args.sink.now) (g.K.Sink.taken c.lines.sink) (g.K.Sink.taken c.answer_next_line.new.sink)
    (g.S.Source.left c.args.source.now) (g.S.Source.left c.lines.source) (g.S.Source.left c.answer_next_line.new.source)
    c.lines.invariant.known (c.in-Ok-false.ensures.end (ap Ok c.in-Ok-false.field-0-test))

pub returns-in-Err-clause-replies : goal.returns-in-Err-clause-replies
returns-in-Err-clause-replies g c =
    progress_stop g.R.Runner.stands g.met.R.Runner.legal c.in-Err.status c.lines.run c.answer_next_line.new.run _ _
    (g.K.Sink.taken c.args.sink.now) (g.K.Sink.taken c.lines.sink) (g.K.Sink.taken c.answer_next_line.new.sink)
    (g.S.Source.left c.args.source.now) (g.S.Source.left c.lines.source) (g.S.Source.left c.answer_next_line.new.source)
    c.in-Err.ensures.counts.counts.taken c.lines.invariant.known c.in-Err.ensures.stop
