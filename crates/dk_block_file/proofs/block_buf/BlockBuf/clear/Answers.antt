-- Each byte is made zero.
use Rattle.std.proofs.Common.{◌∙◌, ap, arith, length, List, ℕ}
use Rattle.dk_block_file.proofs.RangeLemmas.{zeroed}
use Rattle.dk_block_file.proofs.block_buf.BlockBuf.clear.Goals as goal

pub returns : goal.returns
returns c =
    let whole = ap (λ (l : List ℕ). length l) c.as_mut_slice.ensures.value ∙ c.self.invariant in
    zeroed _ _ c.fill.new.self c.self.inside.bytes.items (c.fill.ensures.after (λ y e. e)) whole
    (omega (arith, c.self.invariant, c.self.inside.bytes.ok.0))
