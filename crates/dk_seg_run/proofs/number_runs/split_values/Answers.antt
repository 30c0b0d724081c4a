use Rattle.dk_seg_run.proofs.NumberRunLemmas.{first_number_run}
use Rattle.dk_seg_run.proofs.number_runs.split_values.Goals as goal

pub returns-clause-run : goal.returns-clause-run
returns-clause-run c = rw (c.split_run.ensures.count, c.split_run.ensures.behind) (first_number_run c.args.kind c.args.first.now c.args.rest.now c.requires.stand)
