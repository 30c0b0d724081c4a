-- The line was answered; a reply that did not go out stops the run, behind a front of it.
use Rattle.std.proofs.Common.{◌∙◌, ap, sym}
use Rattle.std.proofs.lemmas.Result.{on_err_weaker, on_ok_weaker}
use Rattle.dk_script.specs.Requests.{request_of}
use Rattle.dk_script.proofs.LineLemmas.{answers_line, front_line, write_stops, asks_is_good}
use Rattle.dk_script.proofs.run.answer_line.Goals as goal

pub returns-clause-ok : goal.returns-clause-ok
returns-clause-ok g c =
    on_ok_weaker c.write_reply.result
    (λ taken. answers_line g.R.Runner.stands c.args.run.now _ (g.K.Sink.taken c.args.sink.now)
    (g.K.Sink.taken c.write_reply.new.sink) c.args.run.now.reader.line c.in-Some.session c.in-Some.text.now
    c.run_statement-answer.result
    (record {
      short = c.requires.short;
      asks = sym (c.in-Some.ensures.exact ∙ ap request_of c.line.ensures);
      call = c.run_statement-answer.ensures;
    })
    c.trouble_behind-run.ensures taken)
    c.write_reply.ensures.ok

pub returns-clause-stop : goal.returns-clause-stop
returns-clause-stop g c =
    write_stops g.R.Runner.stands c.write_reply.result c.args.run.now
    (record {
      reader = c.args.run.now.reader;
      runner = c.run_statement-answer.new.self;
      page = c.write_reply.new.page;
      trouble = c.trouble_behind-run.result;
    })
    (g.K.Sink.taken c.args.sink.now)
    (g.K.Sink.taken c.write_reply.new.sink) c.write_reply.ensures.stops.stop
    (asks_is_good c.args.run.now.reader.line c.in-Some.session c.in-Some.text.now c.requires.short
    (sym (c.in-Some.ensures.exact ∙ ap request_of c.line.ensures)))
    (on_err_weaker c.write_reply.result
    (λ front. front_line g.R.Runner.stands c.args.run.now.runner c.run_statement-answer.new.self
    (g.K.Sink.taken c.args.sink.now)
    (g.K.Sink.taken c.write_reply.new.sink) c.args.run.now.reader.line c.in-Some.session c.in-Some.text.now
    c.run_statement-answer.result
    (record {
      short = c.requires.short;
      asks = sym (c.in-Some.ensures.exact ∙ ap request_of c.line.ensures);
      call = c.run_statement-answer.ensures;
    })
    front)
    c.write_reply.ensures.err)
