use Rattle.std.proofs.Common.{sym, ◌∙◌}
use Rattle.dk_bytes.proofs.DigitLemmas.{zero_from, zero_to}
use Rattle.dk_bytes.proofs.bits.BitReader.is_zero.Goals as goal

pub returns-then-self-eq0 : goal.returns-then-self-eq0
returns-then-self-eq0 c = (
  λ h. sym c.self.view_is ∙ zero_from _ _ _ c.if-self-eq0.true (c.are_zero.ensures.0 h),
  λ h. c.are_zero.ensures.1 (zero_to _ _ _ (c.self.view_is ∙ h)),
)
