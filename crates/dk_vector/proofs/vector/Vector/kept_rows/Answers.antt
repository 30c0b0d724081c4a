use Rattle.std.proofs.Common.{arith, suc, ◌≡◌, ◌<◌, ◌+◌, ◌-◌, ◌∙◌, ap, sym, length}
use Rattle.dk_vector.specs.Spare.{is_kept}
use Rattle.dk_vector.proofs.KeptLemmas.{last_next}
use Rattle.dk_vector.proofs.vector.Vector.kept_rows.Goals as goal

pub rows-preserved : goal.rows-preserved
rows-preserved c =
    let test = is_kept c.args.self.now in
    let n = length c.args.self.now.stamps.rows in
    let k = c.rows.k in
    let below : k < n = omega (arith, c.rows-test.true, c.len-k-end.ensures) in
    let next : n - k ≡ suc (n - (k + 1)) = omega (arith, below) in
    let here : n - (k + 1) ≡ (c.len.result - k) - 1 = omega (arith, c.len.ensures, below) in
    last_next test (n - (k + 1)) (n - k) next (ap test here ∙ sym c.is_kept.ensures ∙ c.if-is_kept.false) ∙ c.rows.invariant
