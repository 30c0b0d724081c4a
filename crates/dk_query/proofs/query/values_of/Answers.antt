use Rattle.std.proofs.Common.{◌∙◌, map, take, ap}
use Rattle.std.proofs.lemmas.List.{take_all}
use Rattle.dk_query.specs.declared.lines.Line.{Line}
use Rattle.dk_query.proofs.LimitLemmas.{shown_is}
use Rattle.dk_query.proofs.query.values_of.Goals as goal

pub returns : goal.returns
returns c =
    let values = λ (line : Line). line.values in
    let lines = c.args.lines.now in
    c.lines.invariant
    ∙ ap (map values) (take_all c.lines.line-index (take c.within_limit-count.result lines) c.lines-test.false)
    ∙ ap (λ n. map values (take n lines)) c.within_limit-count.ensures
    ∙ shown_is values c.args.limit lines
