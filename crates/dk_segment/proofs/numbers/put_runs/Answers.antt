use Rattle.std.proofs.Common.{sym, ◌∙◌}
use Rattle.dk_seg_run.proofs.NumberRunLemmas.{runs_counted}
use Rattle.dk_segment.proofs.numbers.put_runs.Goals as goal

pub put_number_runs-requires-clause-runs : goal.put_number_runs-requires-clause-runs
put_number_runs-requires-clause-runs c = c.requires.profile.runs ∙ sym (runs_counted c.args.kind c.args.numbers.now c.requires.stand)
