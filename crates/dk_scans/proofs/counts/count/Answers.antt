use Rattle.std.proofs.Common.{◌*◌, ◌≤◌, length, arith}
use Rattle.std.proofs.lemmas.Grind.{div_ceil_times}
use Rattle.dk_scans.proofs.CountLemmas.{next_set}
use Rattle.dk_scans.proofs.counts.count.Goals as goal

pub words-preserved : goal.words-preserved
words-preserved c =
    let times = div_ceil_times c.len.result 64 (omega arith) in
    let within : 64 * c.words.k ≤ length c.args.flags.now = omega (arith, c.words-test.true, c.div_ceil-k-end.ensures, c.len.ensures, times.1) in
    let next = next_set c.args.flags.now c.words.k c.word.result c.min.result c.word.ensures within (omega (arith, c.min.ensures, c.len-in-words.ensures)) in (
      omega (arith, c.words.invariant.0, next, c.set_bits-count.ensures.set),
      omega (arith, c.words.invariant.1, c.set_bits-count.ensures.most, c.min.ensures, c.len-in-words.ensures),
    )
