use Rattle.std.proofs.Common.{◌≡◌, ◌∙◌, [], sym, ap, drop, arith}
use Rattle.std.proofs.lemmas.List.{drop_all}
use Rattle.dk_query.specs.Kept.{kept_from}
use Rattle.dk_query.specs.Direct.{rows_behind}
use Rattle.dk_query.proofs.DirectLemmas.{next_row, next_place, at_end}
use Rattle.dk_query.proofs.direct.direct_rows.Goals.{in-Some+in-Ok, in_default}
use Rattle.dk_query.proofs.direct.direct_rows.Goals as goal

pub rows-preserved : goal.rows-preserved
rows-preserved c =
    let query = c.args.query.now in
    let rows = c.args.rows.now in
    elim c.match-place.branch [
      | in-Some+in-Ok w ↦ rw (w.found-is)
          (next_row query rows c.rows.id c.index-rows-id.result w.in-Some.row c.rows.found w.push_kept.new.found c.rows-test.true
          (sym c.index-rows-id.is) w.in-Some.is w.in-Ok.ensures ∙ c.rows.invariant)
      | in_default w ↦ rw (w.found-is)
          (next_place query rows c.rows.id c.index-rows-id.result c.rows.found c.rows-test.true (sym c.index-rows-id.is) w.in_default.is
          ∙ c.rows.invariant)
    ]

pub returns : goal.returns
returns c =
    let query = c.args.query.now in
    let rows = c.args.rows.now in
    let none : drop c.rows.id rows ≡ [] = drop_all c.rows.id rows (omega (arith, c.rows-test.false)) in
    sym c.rows.invariant
    ∙ ap (λ places. rows_behind query.limit c.rows.found (kept_from query c.rows.id places)) none
    ∙ at_end query.limit c.rows.found
