use Rattle.std.proofs.Common.{Some, None}
use Rattle.dk_turns.proofs.turns.Turns.free_event.Given as goal

abbrev pub ghosts-tick_free : goal.ghosts-tick_free
ghosts-tick_free g a = record { turn = 0; part = None; note = Some a.note.now }
