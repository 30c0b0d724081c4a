use Rattle.std.proofs.Common.{◌≡◌, ◌<◌, ◌^◌, ℕ, List, not, arith, ap, sym, ◌∙◌, length, map}
use Rattle.std.specs.List.{flat_map}
use Rattle.dk_bytes.specs.PlainValue.{present}
use Rattle.dk_seg_text.specs.Dictionary.{text_of, entries_of, entries_behind, is_entry, with_entry, entry_bytes}
use Rattle.dk_seg_text.proofs.MeasureLemmas.{not_twice, one_behind, first_fits, full_behind, short_text, one_measured, never}
use Rattle.dk_seg_text.proofs.dictionary.measure_in.Goals as goal

pub returns-in_default-with_text-clause-held : goal.returns-in_default-with_text-clause-held
returns-in_default-with_text-clause-held c =
    let t : List ℕ = c.text_of-text.result.now in
    let known : not c.in_ok-is_known.field-0 ≡ is_entry c.values.entries t = not_twice c.in_ok-is_known.field-0 (is_entry c.values.entries t) c.in_ok-is_known.ensures.fresh in
    let all = one_behind c.values.entries t c.in-Some.value.now (present c.values.left.now) (present c.in-Some.rest.now) (entries_of (map text_of (present c.args.values.now))) c.text_of-text.ensures c.in-Some.ensures.some c.values.invariant.rest in
    let many = full_behind c.values.entries t (map text_of (present c.in-Some.rest.now)) c.values.count c.values.len (not c.in_ok-is_known.field-0) c.values.invariant.count c.values.invariant.few known c.in_default-with_text.ensures.known c.in_default-with_text.ensures.fresh in
    (λ e. absurd (never e), λ h. absurd (omega (arith, h, many, ap length all)))

pub values-preserved : goal.values-preserved
values-preserved c =
    let t : List ℕ = c.text_of-text.result.now in
    let known : not c.in_ok-is_known.field-0 ≡ is_entry c.values.entries t = not_twice c.in_ok-is_known.field-0 (is_entry c.values.entries t) c.in_ok-is_known.ensures.fresh in
    let all = one_behind c.values.entries t c.in-Some.value.now (present c.values.left.now) (present c.in-Some.rest.now) (entries_of (map text_of (present c.args.values.now))) c.text_of-text.ensures c.in-Some.ensures.some c.values.invariant.rest in
    let fits = first_fits c.in-Some.value.now (present c.values.left.now) (present c.in-Some.rest.now) c.in-Some.ensures.some c.values.invariant.fits in
    let short : length t < 2 ^ 16 = rw c.text_of-text.ensures (short_text c.in-Some.value.now (λ _. fits.0)) in
    let m = one_measured c.values.entries t c.values.count c.values.len c.in-Some-with_text.more (not c.in_ok-is_known.field-0) c.values.invariant.count c.values.invariant.len c.values.invariant.few c.values.invariant.small short known
    c.in-Some-with_text.ensures.known c.in-Some-with_text.ensures.fresh c.in-Some-with_text.ensures.full in
    let next : c.add_new.new.self ≡ with_entry c.values.entries t = c.in_ok-is_known.ensures.entries in
    record {
      rest = ap (λ (es : List (List ℕ)). entries_behind es (map text_of (present c.in-Some.rest.now))) next ∙ all;
      count = m.count ∙ ap length (sym next);
      len = m.len ∙ ap (λ (l : List (List ℕ)). length (flat_map entry_bytes l)) (sym next);
      fits = fits.1;
      few = m.few;
      small = m.small;
    }
