-- A value that doesn't fit.
use Rattle.dk_states.proofs.stored.stored_row.Goals as goal
use Rattle.dk_states.proofs.StoredLemmas.{is_stored, not_stored}

pub returns-in-None : goal.returns-in-None
returns-in-None c =
    not_stored c.args.columns.now c.args.row.now c.columns.found c.columns.place c.index-columns-place.result _
    c.in_ok-value.value c.stored.result c.columns-test.true c.index-columns-place.is c.get.ensures
    c.in_ok-value.ensures c.stored.ensures c.in-None.is c.columns.invariant

pub columns-preserved : goal.columns-preserved
columns-preserved c =
    is_stored c.args.columns.now c.args.row.now c.columns.found c.push.new.self c.columns.place
    c.index-columns-place.result _ c.in_ok-value.value c.in-Some.value c.stored.result c.columns-test.true
    c.index-columns-place.is c.get.ensures c.in_ok-value.ensures c.stored.ensures c.in-Some.is
    c.in_ok-push-in-Some.ensures.ok c.columns.invariant
