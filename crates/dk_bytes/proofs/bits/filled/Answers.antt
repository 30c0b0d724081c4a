use Rattle.std.proofs.Common.{arith, rules, ◌^◌, ◌<◌}
use Rattle.dk_bytes.proofs.JoinedBitsLemmas.{joined_below, joined_above}
use Rattle.dk_bytes.proofs.bits.filled.Goals as goal

pub returns-clause-number : goal.returns-clause-number
returns-clause-number c =
    let fits : c.split_word-word.result.0 < 2 ^ 64 = search rules in
    joined_above _ _ _ _ _ fits c.requires.count c.split_word-word.ensures

pub returns-clause-below : goal.returns-clause-below
returns-clause-below c =
    let fits : c.split_word-word.result.0 < 2 ^ 64 = search rules in
    joined_below _ _ 64 _ c.requires.held fits (omega arith) c.requires.count
