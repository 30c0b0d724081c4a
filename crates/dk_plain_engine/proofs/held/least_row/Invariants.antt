-- The least one so far, and what the rest gives.
use Rattle.std.proofs.Common.{◌≡◌, drop}
use Rattle.dk_si.specs.Answer.{least_where}
use Rattle.dk_si.specs.HeldRows.{is_blocked}
use Rattle.dk_plain_engine.specs.Held.{joined}
use Rattle.dk_plain_engine.specs.Still.{state_of}
use Rattle.dk_plain_engine.proofs.held.least_row.Given as goal

abbrev pub invariant-ids : goal.invariant-ids
invariant-ids l =
    let test = is_blocked (state_of l.scene.log.commits.now l.scene.begun l.scene.sessions.now) l.scene.number l.start l.set.table in
    joined l.least (least_where test (drop l.id-index l.set.ids)) ≡ least_where test l.set.ids
