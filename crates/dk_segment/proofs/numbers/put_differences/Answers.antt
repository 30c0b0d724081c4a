use Rattle.dk_segment.proofs.NumberSizeLemmas.{ranks_are}
use Rattle.dk_segment.proofs.numbers.put_differences.Goals as goal

pub returns : goal.returns
returns c = rw (ranks_are c.args.kind c.args.numbers.now c.requires.stand) c.put_packed.ensures.ok
