use Rattle.std.proofs.Common.{◌∙◌, ◌≡◌, ◌++◌, List, ℕ, subst}
use Rattle.std.specs.Prelude.{OnOk}
use Rattle.dk_seg_pack.specs.Packed.{rank}
use Rattle.dk_seg_pack.proofs.BodyLemmas.{all_fit, fields_are}
use Rattle.dk_seg_pack.proofs.numbers.put_body.Goals as goal

pub put_fields-requires-clause-numbers : goal.put_fields-requires-clause-numbers
put_fields-requires-clause-numbers c =
    all_fit rank c.args.numbers.now _ _ c.requires.least (c.deref.ensures.value ∙ c.in_ok-differences.ensures) _ (rw (← c.requires.greatest, ← c.requires.least) c.range_width.ensures.fits)

pub returns-clause-ok : goal.returns-clause-ok
returns-clause-ok c =
    let same = fields_are rank c.args.numbers.now _ _ c.requires.least (c.deref.ensures.value ∙ c.in_ok-differences.ensures) _ (rw (← c.requires.greatest, ← c.requires.least) c.range_width.ensures.value) in
    subst (λ (l : List ℕ). OnOk c.put_fields.result (c.put_fields.new.out.items ≡ c.args.out.now.items ++ l)) same c.put_fields.ensures.ok
