use Rattle.std.proofs.Common.{◌≡◌, ◌+◌, ◌<◌, ◌^◌, ℕ, List, arith, ap, sym, ◌∙◌, length, take, map}
use Rattle.std.specs.List.{flat_map}
use Rattle.dk_values.specs.declared.value.Value.{Value}
use Rattle.dk_bytes.specs.PlainValue.{present}
use Rattle.dk_seg_text.specs.Dictionary.{text_of, entries_of, entry_bytes}
use Rattle.dk_seg_text.proofs.MeasureLemmas.{with_cell, entries_next, rest_fits, first_short, cell_measured, never, too_many}
use Rattle.dk_seg_text.proofs.dictionary.measure.Goals as goal

pub values-preserved : goal.values-preserved
values-preserved c =
    let v : Value = c.index-values-i.result in
    let es : List (List ℕ) = entries_of (map text_of (present (take c.values.i c.args.values.now))) in
    let short : length (text_of v) < 2 ^ 16 = first_short c.args.values.now c.values.i v c.values-test.true c.index-values-i.is c.values.invariant.fits in
    let m = cell_measured es v c.values.count c.values.len c.in-Some.more c.brings_nothing-is_known.result c.values.invariant.count c.values.invariant.len c.values.invariant.few c.values.invariant.small short c.brings_nothing-is_known.ensures
    c.in-Some.ensures.known (rw c.text_of-text.ensures at c.in-Some.ensures.fresh) c.in-Some.ensures.full in
    let next : entries_of (map text_of (present (take (c.values.i + 1) c.args.values.now))) ≡ with_cell es v = entries_next c.args.values.now c.values.i v c.values-test.true c.index-values-i.is in
    record {
      count = m.count ∙ ap length (sym next);
      len = m.len ∙ ap (λ (l : List (List ℕ)). length (flat_map entry_bytes l)) (sym next);
      fits = rest_fits c.args.values.now c.values.i v c.values-test.true c.index-values-i.is c.values.invariant.fits;
      few = m.few;
      small = m.small;
    }

pub returns-in_default-clause-held : goal.returns-in_default-clause-held
returns-in_default-clause-held c =
    let many = too_many c.args.values.now c.values.i c.index-values-i.result c.values.count c.values.len c.brings_nothing-is_known.result c.values-test.true c.index-values-i.is c.values.invariant.count c.values.invariant.few c.brings_nothing-is_known.ensures
    c.in_default.ensures.known (rw c.text_of-text.ensures at c.in_default.ensures.fresh) in
    (λ e. absurd (never e), λ h. absurd (omega (arith, h, many)))
