-- A fresh vector of zeros.
use Rattle.dk_block_file.proofs.block_buf.BlockBuf.new.Goals as goal

pub returns : goal.returns
returns c = c.in_ok-vec.ensures.items_if_clones_equal (λ y e. e)
