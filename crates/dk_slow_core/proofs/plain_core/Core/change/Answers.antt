-- Where a conflict is found, it is noted.
use Rattle.std.proofs.Common.{◌≡◌, Some, ◌∙◌, sym}
use Rattle.dk_core.specs.Findings.{conflict}
use Rattle.dk_slow_seats.specs.Seats.{start_at}
use Rattle.dk_slow_core.proofs.ChangeLemmas.{conflict_behind}
use Rattle.dk_slow_core.proofs.plain_core.Core.change.Goals as goal

pub returns-in-Some-2-clause-ok : goal.returns-in-Some-2-clause-ok
returns-in-Some-2-clause-ok c at =
    let begun : start_at c.args.self.now.seats c.args.session ≡ Some c.in-Some.start = sym c.in-Some.ensures in
    let found : conflict c.args.self.now c.args.session c.in-Some.start c.args.part ≡ Some c.in-Some-2.refusal =
    sym c.in_ok-refusal.ensures ∙ c.in-Some-2.is
    in
    c.set_found.ensures
    ∙ conflict_behind c.args.self.now c.args.session c.in-Some.start at c.args.part c.in-Some-2.refusal begun found
