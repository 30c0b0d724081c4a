-- The last line stands behind the replies.
use Rattle.std.proofs.Common.{◌∙◌, sym, ap}
use Rattle.dk_script.specs.RunEnds.{status_of}
use Rattle.dk_script.proofs.LastLineLemmas.{prints, usage_stops, usage_told}
use Rattle.dk_script.proofs.serve.serve_over.Goals as goal

pub returns-clause-usage : goal.returns-clause-usage
returns-clause-usage g c = (
  λ e. c.carry_out-ending.ensures.usage.0
      (usage_stops c.carry_out-ending.result (sym c.close.ensures.status ∙ e)),
  λ wrong. c.close.ensures.status ∙ ap status_of (c.carry_out-ending.ensures.usage.1 wrong),
)

pub returns-clause-usage_line : goal.returns-clause-usage_line
returns-clause-usage_line g c e =
    usage_told g.K.Sink g.S.Source c.args.source.now c.carry_out-ending.new.source c.args.sink.now
    c.carry_out-ending.new.sink c.close.new.sink c.carry_out-ending.result
    (usage_stops c.carry_out-ending.result (sym c.close.ensures.status ∙ e))
    c.carry_out-ending.ensures.untouched c.close.ensures.last

pub returns-clause-output : goal.returns-clause-output
returns-clause-output g c =
    prints g.K.Sink (g.S.Source.left c.args.source.now) (g.S.Source.left c.carry_out-ending.new.source)
    c.args.sink.now c.carry_out-ending.new.sink c.close.new.sink c.carry_out-ending.result c.close.result
    c.carry_out-ending.ensures.later c.close.ensures.status c.carry_out-ending.ensures.replies c.close.ensures.last
