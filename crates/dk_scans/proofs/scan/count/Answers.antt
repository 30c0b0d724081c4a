use Rattle.std.proofs.Common.{◌∙◌}
use Rattle.dk_scans.proofs.SelectionLemmas.{asked_count}
use Rattle.dk_scans.proofs.scan.count.Goals as goal

pub returns : goal.returns
returns c = c.count.ensures ∙ asked_count _ _ _ c.args.cells.now.values (record { both = c.new.ensures; not_null = c.present.ensures; long = c.requires })
