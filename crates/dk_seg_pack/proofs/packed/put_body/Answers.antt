use Rattle.std.proofs.Common.{◌∙◌, ◌≡◌, ◌++◌, List, ℕ, subst}
use Rattle.std.specs.Prelude.{OnOk}
use Rattle.dk_bytes.specs.PlainValue.{present}
use Rattle.dk_seg_pack.specs.Packed.{rank_of}
use Rattle.dk_seg_pack.proofs.BodyLemmas.{all_fit, fields_are}
use Rattle.dk_seg_pack.proofs.packed.put_body.Goals as goal

pub put_fields-requires-clause-numbers : goal.put_fields-requires-clause-numbers
put_fields-requires-clause-numbers c =
    all_fit rank_of (present c.args.values.now) _ _ c.least.ensures (c.deref.ensures.value ∙ c.in_ok-differences.ensures) _ c.width_of.ensures.fits

pub returns-clause-ok : goal.returns-clause-ok
returns-clause-ok c =
    let same = fields_are rank_of (present c.args.values.now) _ _ c.least.ensures (c.deref.ensures.value ∙ c.in_ok-differences.ensures) _ c.width_of.ensures.value in
    subst (λ (l : List ℕ). OnOk c.put_fields.result (c.put_fields.new.out.items ≡ c.args.out.now.items ++ l)) same c.put_fields.ensures.ok
