-- The last line was written, or a front of it where the sink failed.
use Rattle.dk_script.proofs.LastLineLemmas.{closed, closed_none}
use Rattle.dk_script.proofs.serve.close.Goals as goal

pub returns-in-Ok-clause-last : goal.returns-in-Ok-clause-last
returns-in-Ok-clause-last g c = rw c.in-Ok.is (closed_none g.K.Sink c.args.sink.now)

pub returns-in-Err-clause-last : goal.returns-in-Err-clause-last
returns-in-Err-clause-last g c =
    rw c.in-Err.is (closed g.K.Sink c.write_last_line.result _ _ _ c.write_last_line.ensures.ok
    c.write_last_line.ensures.err c.write_last_line.ensures.cause)
