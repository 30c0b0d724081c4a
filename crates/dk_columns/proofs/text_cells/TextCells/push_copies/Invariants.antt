-- So many copies stand behind the texts of before.
use Rattle.std.proofs.Common.{◌≡◌, ◌++◌, replicate}
use Rattle.std.specs.Prelude.{option_map}
use Rattle.dk_columns.proofs.text_cells.TextCells.push_copies.Given as goal

abbrev pub invariant-copies : goal.invariant-copies
invariant-copies l = l.self ≡ l.fn.self ++ replicate l.counter (option_map (λ text. text.now) l.text)
