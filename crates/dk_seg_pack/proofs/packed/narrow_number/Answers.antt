use Rattle.std.proofs.Common.{arith, rules, ◌<◌, ◌^◌, ◌%◌, ◌*◌, ℕ, ap, ◌∙◌}
use Rattle.dk_bytes.proofs.NarrowLemmas.{from_bit, field_in}
use Rattle.dk_seg_pack.proofs.packed.narrow_number.Goals as goal

pub returns : goal.returns
returns c =
    let fits : c.split_word-word.result.0 < 2 ^ 64 = search rules in
    field_in _ _ _ _ _ c.requires.width (omega arith) fits c.split_word-word.ensures
    ∙ ap (λ (x : ℕ). x % 2 ^ c.args.width) (from_bit c.args.bytes.now (c.args.width * c.args.i) (λ i. omega (arith, c.type_inv.bytes i)))
