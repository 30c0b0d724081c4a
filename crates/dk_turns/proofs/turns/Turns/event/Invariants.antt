use Rattle.std.proofs.Common.{Some}
use Rattle.dk_turns.proofs.turns.Turns.event.Given as goal

abbrev pub ghosts-tick : goal.ghosts-tick
ghosts-tick g a = record { turn = a.turn; part = Some a.part.now; note = Some a.note.now }
