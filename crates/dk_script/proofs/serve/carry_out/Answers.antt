-- A run of a script has no status of wrong words.
use Rattle.std.proofs.Common.{◌≡◌, ◌∙◌, true, false, sym}
use Rattle.std.specs.Prelude.{map, string_bytes}
use Rattle.dk_script.specs.RunEnds.{status_of}
use Rattle.dk_script.specs.Script.{is_run}
use Rattle.dk_script.specs.Sinks.{SourceFailed, SinkFailed}
use Rattle.dk_script.proofs.LastLineLemmas.{no_usage, same_cause}
use Rattle.dk_script.proofs.serve.carry_out.Goals as goal

true_false : true ≡ false → ⊥
true_false e = cc

pub returns-clause-usage : goal.returns-clause-usage
returns-clause-usage g c = (
  λ e. absurd (no_usage _ _ _ c.run_script.ensures.cause e),
  λ wrong. absurd (true_false (sym c.if-not-is_run.false ∙ (c.is_run.ensures ∙ wrong))),
)

pub returns-clause-untouched : goal.returns-clause-untouched
returns-clause-untouched g c e = absurd (no_usage _ _ _ c.run_script.ensures.cause e)

pub returns-clause-cause : goal.returns-clause-cause
returns-clause-cause g c =
    same_cause (status_of c.run_script.result) (is_run (map string_bytes c.args.words.now) ≡ false)
    (SourceFailed g.S.Source c.args.source.now c.run_script.new.source)
    (SinkFailed g.K.Sink c.args.sink.now c.run_script.new.sink) c.run_script.ensures.cause
