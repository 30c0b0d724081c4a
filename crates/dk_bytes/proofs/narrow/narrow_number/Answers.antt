use Rattle.std.proofs.Common.{rules, ◌<◌, ◌^◌}
use Rattle.dk_bytes.proofs.NarrowLemmas.{field_in}
use Rattle.dk_bytes.proofs.narrow.narrow_number.Goals as goal

pub returns : goal.returns
returns c =
    let fits : c.split_word-word.result.0 < 2 ^ 64 = search rules in
    field_in _ _ _ _ _ c.requires.width c.requires.before fits c.split_word-word.ensures
