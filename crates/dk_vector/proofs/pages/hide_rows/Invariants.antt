use Rattle.dk_stamp.specs.Sees.{sees}
use Rattle.dk_vector.proofs.PageLemmas.{IsHiddenTo}
use Rattle.dk_vector.proofs.pages.hide_rows.Given as goal

abbrev pub invariant-rows : goal.invariant-rows
invariant-rows l = IsHiddenTo (sees l.snapshot) l.stamps.rows l.row l.fn.rows l.rows
