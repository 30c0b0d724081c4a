-- Passes that come back from their calls without a turn.
use Rattle.std.specs.Prelude.{◌≡◌, List, []}
use Rattle.atomic_table.specs.Seated.{TableId}
use Rattle.dk_turns.specs.PassViews.{AllIdle, IsWhole, PassView}

-- the pass is of the same turns, has its number, gave as many numbers as before, and holds no turn
pub record StaysIdle {P N : Type 0} (x y : PassView P N) : Type 0 where
  pub turns : y.turns ≡ x.turns
  pub held : y.knowledge.held ≡ []
  pub number : y.knowledge.number ≡ x.knowledge.number
  pub given : y.knowledge.given ≡ x.knowledge.given

-- they are all passes of these turns, and none holds a turn
pub record CanClose {P N : Type 0} (turns : TableId) (ps : List (PassView P N)) : Type 0 where
  pub idle : AllIdle turns ps
  pub whole : IsWhole ps
