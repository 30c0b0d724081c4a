use Rattle.std.proofs.Common.{◌∙◌, ap, sym, map, replicate}
use Rattle.dk_version.specs.declared.stamps.Stamp.{Stamp}
use Rattle.dk_version.specs.declared.stamps.Kept.{Kept}
use Rattle.dk_version.specs.Rows.{reinserted, rows_in}
use Rattle.dk_version.proofs.FrontLemmas.{map_same}
use Rattle.dk_version.proofs.stamps.reinsert_kept.Goals as goal

pub returns-in-Same-clause-rows : goal.returns-in-Same-clause-rows
returns-in-Same-clause-rows c =
    ap (λ (s : Stamp). replicate c.in-Same.count s) c.reinserted.ensures
    ∙ sym (map_same (reinserted c.args.from c.args.to) c.in-Same.count c.in-Same.stamp)
    ∙ ap (λ (k : Kept). map (reinserted c.args.from c.args.to) (rows_in k)) (sym c.in-Same.is)
