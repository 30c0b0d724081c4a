use Rattle.std.proofs.Common.{arith, rules, FitsSigned, ◌+◌, ◌-◌, ap, ◌∙◌}
use Rattle.std.specs.Int.{w64}
use Rattle.std.proofs.lemmas.Int.{to_z-of_z}
use Rattle.std.proofs.lemmas.Result.{err_from_is_err_and}
use Rattle.dk_bytes.proofs.OutcomeLemmas.{fails_then}
use Rattle.dk_seg_body.specs.Numbers.{values_for}
use Rattle.dk_seg_text.proofs.ValueLemmas.{one_number, more_stand, failed_value}
use Rattle.dk_seg_text.proofs.plain.read_numbers.Goals as goal

pub numbers-preserved : goal.numbers-preserved
numbers-preserved c =
    let fits : FitsSigned w64 c.in_ok-number.number = search rules in
    let kept = to_z-of_z w64 c.in_ok-number.number fits in
    record {
      told = one_number c.kind-kind.result _ _ c.in_ok-number.number _ (c.args.count - c.numbers.counter) (c.args.count - (c.numbers.counter + 1)) _ _ _ (omega (arith, c.numbers-test.true)) kept c.in_ok-push.ensures.items c.in_ok-number.ensures.reads c.numbers.invariant.told;
      stand = more_stand c.kind-kind.result _ _ c.in_ok-number.number _ kept c.in_ok-push.ensures.items c.in_ok-number.ensures.stands c.numbers.invariant.stand;
      within = omega arith;
    }

pub returns-in_err-number-clause-values : goal.returns-in_err-number-clause-values
returns-in_err-number-clause-values c =
    let p = err_from_is_err_and c.from_residual-in_err-number.result c.from_residual-in_err-number.ensures.1 in
    rw (p.1, p.2, ← c.kind-kind.ensures) (fails_then _ _ _ (failed_value c.kind-kind.result (values_for c.kind-kind.result c.numbers.numbers.items) (c.args.count - c.numbers.counter) (c.args.count - (c.numbers.counter + 1)) _ _ (omega (arith, c.numbers-test.true)) c.numbers.invariant.told) c.in_err-number.ensures.reads)
