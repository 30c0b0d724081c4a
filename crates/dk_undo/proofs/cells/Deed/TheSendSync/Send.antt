-- A deed goes to another thread where its allocator does.
use denote.RattleType.{RattleType}
use denote.Param.Send.{IsSend, Frees}
use Rattle.std.specs.declared.alloc.Allocator.{Ghosts}
use Rattle.dk_undo.proofs.SendSyncLemmas.{Deed-send}
use Rattle.dk_undo.specs.contracts.cells.Deed.{the_row}

pub send : (R A : RattleType) (g : Ghosts A.Denot) → IsSend A → Frees g g.dealloc_token → IsSend (the_row R A g)
send R A g s = Deed-send R A g
