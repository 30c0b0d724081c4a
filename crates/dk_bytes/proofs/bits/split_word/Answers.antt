use Rattle.std.proofs.Common.{arith}
use Rattle.dk_bytes.proofs.DigitLemmas.{short_word}
use Rattle.dk_bytes.proofs.bits.split_word.Goals as goal

pub returns-then-bytes-lt8 : goal.returns-then-bytes-lt8
returns-then-bytes-lt8 c = short_word _ _ (omega (arith, c.if-bytes-lt8.true)) c.last_word.ensures
