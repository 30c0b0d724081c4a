-- Some lines were answered, and the others are left. Each turn reads a line, and there are no more lines than bytes.
use Rattle.std.proofs.Common.{◌≤◌, ◌-◌, ◌+◌}
use Rattle.dk_io.specs.LinesLeft.{Counts}
use Rattle.dk_script.specs.LineSteps.{IfBothKnown}
use Rattle.dk_script.specs.RunState.{IsReady}
use Rattle.dk_script.proofs.ProgressLemmas.{Progress}
use Rattle.dk_script.proofs.run.answer_lines.Given as goal

abbrev pub invariant-lines : goal.invariant-lines
invariant-lines g l = record {
  ready : IsReady l.run.reader l.run.page.items (g.S.Source.left l.source);
  known : IfBothKnown (g.S.Source.left l.fn.source) (g.S.Source.left l.source)
      (Progress g.R.Runner.stands l.run (g.K.Sink.taken l.fn.sink) (g.K.Sink.taken l.sink));
  taken : Counts 0 (g.S.Source.left l.fn.source) l.run.reader.taken (g.S.Source.left l.source);
  source_later : g.S.Source.faults l.fn.source ≤ g.S.Source.faults l.source;
  sink_later : g.K.Sink.faults l.fn.sink ≤ g.K.Sink.faults l.sink;
}

abbrev pub decreases-lines : goal.decreases-lines
decreases-lines g l = l.run.reader.total + 2 - l.run.reader.number
