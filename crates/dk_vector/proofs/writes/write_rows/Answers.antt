use Rattle.std.proofs.Common.{sym, arith, ◌≡◌, ◌+◌, ◌-◌, ◌<◌, length, drop, subst, ℕ}
use Rattle.dk_vector.specs.Changes.{IsWritten}
use Rattle.dk_vector.proofs.WriteLemmas.{written_next, below_at, fits_at}
use Rattle.dk_vector.proofs.writes.write_rows.Goals as goal

pub rows-preserved : goal.rows-preserved
rows-preserved c =
    let rows = c.args.rows.now in
    let values = c.args.values.now in
    let n = length rows in
    let i = (n - 1) - c.rows.k in
    let within = c.rows-test.true in
    let front : n - (c.rows.k + 1) ≡ i = omega arith in
    let next : n - c.rows.k ≡ i + 1 = omega (arith, within) in
    let inside : i < n = omega (arith, within) in
    subst (λ (i : ℕ). IsWritten (drop i rows) (drop i values) c.args.base.now c.set.new.self) (sym front)
    (written_next rows values i (n - c.rows.k) c.get.result c.args.base.now c.rows.base c.set.new.self next inside c.get.ensures
    (below_at (length c.args.base.now.rows) (length c.rows.base.rows) rows i c.requires.within c.rows.invariant.count inside)
    (fits_at c.args.base.now.kinds c.rows.base.kinds values i c.get.result c.requires.fits c.rows.invariant.kinds c.get.ensures)
    c.rows.invariant (c.in_ok-set.ensures.ok))
