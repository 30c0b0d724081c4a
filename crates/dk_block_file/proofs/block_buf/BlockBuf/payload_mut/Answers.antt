-- What is lent stands behind the checksum.
use Rattle.std.proofs.Common.{◌≡◌, refl, ap, ◌∙◌, arith, List, ℕ, drop, length, length-drop}
use Rattle.dk_header.specs.declared.header.TheConstants.{SUM_BYTES}
use Rattle.dk_block_file.specs.Lending.{with_payload}
use Rattle.dk_block_file.proofs.RangeLemmas.{with_lent, rest_is}
use Rattle.dk_block_file.proofs.block_buf.BlockBuf.payload_mut.Goals as goal
use Rattle.dk_block_file.specs.declared.layout.TheConstants.{BLOCK_BYTES, PAYLOAD_BYTES}

pub returns : goal.returns
returns c =
    let items : List ℕ = c.self.inside.bytes.items in
    let n : ℕ = c.self.inside.bytes.len in
    let all : n ≡ length items = c.self.inside.bytes.ok.0 in
    let whole : length items ≡ BLOCK_BYTES = c.self.invariant in
    let value : c.slice_mut.result.now ≡ drop SUM_BYTES items = c.slice_mut.ensures.value
    ∙ rest_is SUM_BYTES n items all in
    let left : length (drop SUM_BYTES items) ≡ PAYLOAD_BYTES = omega (arith, length-drop SUM_BYTES items) in (
      (refl, λ w. with_lent n items w all whole ∙ ap (λ (l : List ℕ). with_payload l w) c.self.view_is),
      record {
        lends = tt;
        bytes = value ∙ ap (λ (l : List ℕ). drop SUM_BYTES l) c.self.view_is;
        len = ap (λ (l : List ℕ). length l) value ∙ left;
      },
    )
