use Rattle.std.proofs.Common.{refl, rules}
use Rattle.dk_bytes.specs.PlainValue.{present}
use Rattle.dk_seg_text.proofs.ValueLemmas.{all_plain}
use Rattle.dk_seg_text.proofs.plain.PlainBody.size.Goals as goal

pub returns-clause-held : goal.returns-clause-held
returns-clause-held c =
    (λ _. all_plain c.args.kind (present c.args.values.now) (present c.values.left.now) c.values.len (c.split_present.ensures.none (search rules)) c.values.invariant.within c.values.invariant.told c.values.invariant.fits.1, λ _. refl)
