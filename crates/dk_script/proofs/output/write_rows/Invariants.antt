-- The rows so far went out or stand on the page, and the others come next.
use Rattle.std.proofs.Common.{◌≤◌, ◌++◌, drop}
use Rattle.dk_script.specs.Paging.{Paged}
use Rattle.dk_texts.specs.Texts.{rows_text}
use Rattle.dk_script.proofs.output.write_rows.Given as goal

abbrev pub invariant-rows : goal.invariant-rows
invariant-rows g l = record {
  paged : Paged (g.K.Sink.taken l.fn.sink) (g.K.Sink.taken l.sink) l.page.items (rows_text (drop l.i l.rows))
      (l.fn.page.items ++ rows_text l.rows);
  later : g.K.Sink.faults l.fn.sink ≤ g.K.Sink.faults l.sink;
}
