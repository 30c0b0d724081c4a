-- What stops the line that was read stops the run there.
use Rattle.std.proofs.Common.{refl}
use Rattle.std.proofs.lemmas.Result.{err_from_is_err_and}
use Rattle.dk_io.specs.LinesLeft.{lines_left}
use Rattle.dk_script.proofs.EndLemmas.{end_popped}
use Rattle.dk_script.proofs.LineLemmas.{line_stops, front_none}
use Rattle.dk_script.proofs.run.answer_next_line.Goals as goal

pub returns-in_err-answer_line-in-Ok-Line-clause-stop : goal.returns-in_err-answer_line-in-Ok-Line-clause-stop
returns-in_err-answer_line-in-Ok-Line-clause-stop g c =
    let p = err_from_is_err_and c.from_residual.result c.from_residual.ensures.1 in
    let reads = rw c.in-Ok-Line.field-0-is at c.in-Ok-Line.ensures.goes_on.line in
    rw (p.1, p.2) (line_stops g.R.Runner.stands c.in_err-answer_line-in-Ok-Line.field-0.0 c.args.run.now
    (record {
      reader = c.next_line.new.self;
      runner = c.args.run.now.runner;
      page = c.args.run.now.page;
      trouble = c.args.run.now.trouble;
    })
    c.answer_line.new.run
    (g.S.Source.left c.args.source.now) (g.S.Source.left c.next_line.new.source) (g.K.Sink.taken c.args.sink.now)
    (g.K.Sink.taken c.answer_line.new.sink) (refl {a = c.args.run.now.runner})
    reads.counted reads.pops c.in_err-answer_line-in-Ok-Line.ensures.stop)

pub returns-in-Ok-End-clause-end : goal.returns-in-Ok-End-clause-end
returns-in-Ok-End-clause-end g c same =
    let reads = rw c.in-Ok-End.field-0-is at c.in-Ok-End.ensures.goes_on.line in
    record {
      still = refl {a = g.K.Sink.taken c.args.sink.now};
      runner = refl {a = c.args.run.now.runner};
      trouble = refl {a = c.args.run.now.trouble};
      left = end_popped c.args.run.now.reader c.next_line.new.self (g.S.Source.left c.args.source.now)
          (g.S.Source.left c.next_line.new.source) reads.pops;
    }

pub returns-in-Err-OutOfMemory-clause-stop : goal.returns-in-Err-OutOfMemory-clause-stop
returns-in-Err-OutOfMemory-clause-stop g c =
    front_none g.R.Runner.stands c.args.run.now
    (record {
      reader = c.next_line.new.self;
      runner = c.args.run.now.runner;
      page = c.args.run.now.page;
      trouble = c.args.run.now.trouble;
    })
    (lines_left c.args.run.now.reader (g.S.Source.left c.args.source.now))
    (g.K.Sink.taken c.args.sink.now) refl
