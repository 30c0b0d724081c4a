-- What was put and what is left to put are the text of all values behind the first.
use Rattle.std.proofs.Common.{◌≡◌, ◌++◌, drop}
use Rattle.dk_texts.specs.Texts.{more_values}
use Rattle.dk_texts.proofs.row_lines.put_more.Given as goal

abbrev pub invariant-cells : goal.invariant-cells
invariant-cells l = l.out.items ++ more_values (drop l.j l.row) ≡ l.fn.out.items ++ more_values (drop 1 l.row)
