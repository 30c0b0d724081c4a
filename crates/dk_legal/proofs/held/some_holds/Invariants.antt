-- The other sessions decide.
use Rattle.std.proofs.Common.{◌≡◌, drop}
use Rattle.std.specs.List.{list_any}
use Rattle.dk_si.specs.HeldRows.{session_holds}
use Rattle.dk_legal.proofs.held.some_holds.Given as goal

abbrev pub invariant-loop-session : goal.invariant-loop-session
invariant-loop-session l =
    let hold = l.hold in
    let at = l.hold.at in
    let test = session_holds hold.seat.opened.now hold.seat.machine.now hold.start hold.transaction at.table at.row in
    list_any test (drop l.session-index l.sessions) ≡ list_any test l.sessions
