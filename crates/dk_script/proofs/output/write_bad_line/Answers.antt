-- What was taken is a front of the line, however far it came.
use Rattle.std.specs.Prelude.{codes, decimal, ◌++◌}
use Rattle.std.proofs.lemmas.Result.{on_err_weaker}
use Rattle.dk_script.proofs.FrontLemmas.{front_longer, front_after, appends_after}
use Rattle.dk_script.proofs.RowLemmas.{on_err_from}
use Rattle.dk_script.proofs.output.write_bad_line.Goals as goal

pub returns-in_err-write_all-clause-err : goal.returns-in_err-write_all-clause-err
returns-in_err-write_all-clause-err g c =
    on_err_from c.from_residual.result
    (front_longer _ _ (codes "bad line " ++ decimal c.args.line) (codes "\n")
    (front_longer _ _ (codes "bad line ") (decimal c.args.line) c.in_err-write_all.ensures.err))

pub returns-in_err-write_number-clause-err : goal.returns-in_err-write_number-clause-err
returns-in_err-write_number-clause-err g c =
    on_err_from c.from_residual-in_err-write_number.result
    (front_longer _ _ (codes "bad line " ++ decimal c.args.line) (codes "\n")
    (front_after _ (g.K.Sink.taken c.write_all.new.sink) _ (codes "bad line ") (decimal c.args.line)
    c.in_ok-write_all.ensures.ok c.in_err-write_number.ensures.err))

pub returns-clause-err : goal.returns-clause-err
returns-clause-err g c =
    on_err_weaker c.write_all-2.result
    (λ f. front_after _ (g.K.Sink.taken c.write_number.new.sink) _ (codes "bad line " ++ decimal c.args.line)
    (codes "\n")
    (appends_after _ (g.K.Sink.taken c.write_all.new.sink) _ (codes "bad line ") (decimal c.args.line)
    c.in_ok-write_all.ensures.ok c.in_ok-write_number.ensures.ok) f)
    c.write_all-2.ensures.err
