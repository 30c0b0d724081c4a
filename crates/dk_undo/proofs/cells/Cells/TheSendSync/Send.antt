-- Places go to another thread where their values do.
use denote.RattleType.{RattleType}
use denote.Param.Send.{IsSend}
use Rattle.dk_undo.proofs.SendSyncLemmas.{Cells-send}
use Rattle.dk_undo.specs.contracts.cells.Cells.{the_row}

pub send : (R : RattleType) → IsSend R → IsSend (the_row R)
send = Cells-send
