-- What was taken is the reply or a front of it, as far as the page went out.
use Rattle.std.specs.Prelude.{unwrap_or, []}
use Rattle.std.proofs.lemmas.Result.{on_err_weaker, on_ok_weaker}
use Rattle.dk_script.proofs.ReplyLemmas.{session_more, session_all, session_front}
use Rattle.dk_script.proofs.RowLemmas.{on_err_from}
use Rattle.dk_script.proofs.output.write_reply.Goals as goal

pub returns-in_err-write_body-in-Ok-clause-err : goal.returns-in_err-write_body-in-Ok-clause-err
returns-in_err-write_body-in-Ok-clause-err g c =
    on_err_from c.from_residual.result
    (session_more c.args.session (unwrap_or c.args.answer.now.name []) c.args.answer.now.reply
    c.args.page.now.items c.put_head.new.page.items c.requires c.in-Ok.ensures.ok (g.K.Sink.taken c.args.sink.now)
    (g.K.Sink.taken c.write_body.new.sink) c.in_err-write_body-in-Ok.ensures.err)

pub returns-in_ok-write_body-in-Ok-clause-ok : goal.returns-in_ok-write_body-in-Ok-clause-ok
returns-in_ok-write_body-in-Ok-clause-ok g c =
    on_ok_weaker c.send.result
    (λ f. session_all c.args.session (unwrap_or c.args.answer.now.name []) c.args.answer.now.reply
    c.args.page.now.items c.put_head.new.page.items c.requires c.in-Ok.ensures.ok (g.K.Sink.taken c.args.sink.now)
    (g.K.Sink.taken c.write_body.new.sink) (g.K.Sink.taken c.send.new.sink) c.write_body.new.page.items
    c.in_ok-write_body-in-Ok.ensures.ok f)
    c.send.ensures.ok

pub returns-in_ok-write_body-in-Ok-clause-err : goal.returns-in_ok-write_body-in-Ok-clause-err
returns-in_ok-write_body-in-Ok-clause-err g c =
    on_err_weaker c.send.result
    (λ f. session_front c.args.session (unwrap_or c.args.answer.now.name []) c.args.answer.now.reply
    c.args.page.now.items c.put_head.new.page.items c.requires c.in-Ok.ensures.ok (g.K.Sink.taken c.args.sink.now)
    (g.K.Sink.taken c.write_body.new.sink) (g.K.Sink.taken c.send.new.sink) c.write_body.new.page.items
    c.in_ok-write_body-in-Ok.ensures.ok f)
    c.send.ensures.err
