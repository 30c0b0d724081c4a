-- The texts of damages, to the byte.
use Rattle.std.specs.Prelude.{ℕ, List, ◌++◌, codes, decimal}
use Rattle.dk_types.specs.declared.damage.Part.{Part}
use Rattle.dk_types.specs.declared.damage.Part.TheVariants.{MainHeader, Header, Tree, Page, Segment, LogRecord}
use Rattle.dk_types.specs.declared.damage.Damage.{Damage}
use Rattle.dk_types.specs.declared.damage.Damage.TheVariants.{Sum, HeaderSum, NoGate, SameIteration, Short, Outside, Twice, LogHeader, LogAhead, Malformed}

abbrev pub part_text : Part → List ℕ
part_text MainHeader = codes "main header"
part_text Header = codes "header"
part_text Tree = codes "tree"
part_text Page = codes "page"
part_text Segment = codes "segment"
part_text LogRecord = codes "log record"

abbrev pub damage_text : Damage → List ℕ
damage_text (Sum block stored computed) =
    codes "damaged block " ++ decimal block ++ codes " stored " ++ decimal stored ++ codes " computed " ++ decimal computed
damage_text (HeaderSum twin stored computed) =
    codes "damaged header " ++ decimal twin ++ codes " stored " ++ decimal stored ++ codes " computed " ++ decimal computed
damage_text NoGate = codes "damaged no gate"
damage_text (SameIteration iteration) = codes "damaged same iteration " ++ decimal iteration
damage_text (Short need have) = codes "damaged short " ++ decimal need ++ codes " " ++ decimal have
damage_text (Outside block blocks) = codes "damaged outside " ++ decimal block ++ codes " " ++ decimal blocks
damage_text (Twice block) = codes "damaged twice " ++ decimal block
damage_text (LogHeader stored computed) =
    codes "damaged log header stored " ++ decimal stored ++ codes " computed " ++ decimal computed
damage_text (LogAhead log iteration) = codes "damaged log ahead " ++ decimal log ++ codes " " ++ decimal iteration
damage_text (Malformed part at) = codes "damaged " ++ part_text part ++ codes " at " ++ decimal at
