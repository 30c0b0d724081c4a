-- What was put and what is left to put are the text of all rows.
use Rattle.std.proofs.Common.{◌≡◌, ◌++◌, drop}
use Rattle.dk_texts.specs.Texts.{rows_text}
use Rattle.dk_script.proofs.plain.put_rows.Given as goal

abbrev pub invariant-rows : goal.invariant-rows
invariant-rows l = l.out.items ++ rows_text (drop l.i l.rows) ≡ l.fn.out.items ++ rows_text l.rows
