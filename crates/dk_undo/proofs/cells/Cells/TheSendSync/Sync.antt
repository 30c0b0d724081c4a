-- Places are shared between threads where their values are.
use denote.RattleType.{RattleType}
use denote.Param.Send.{IsSync}
use Rattle.dk_undo.proofs.SendSyncLemmas.{Cells-sync}
use Rattle.dk_undo.specs.contracts.cells.Cells.{the_row}

pub sync : (R : RattleType) → IsSync R → IsSync (the_row R)
sync = Cells-sync
