use Rattle.std.proofs.Common.{◌<◌}
use Rattle.std.proofs.lemmas.List.Elements.{All-from_recursion}
use Rattle.dk_segment.proofs.NullLemmas.{flags_fit}
use Rattle.dk_segment.proofs.writing.put_mask.Goals as goal

pub pack-requires-clause-numbers : goal.pack-requires-clause-numbers
pack-requires-clause-numbers c = rw (c.as_slice.ensures.value, c.in_ok-flags.ensures) (All-from_recursion (λ flag. flag < 2) _ (flags_fit c.args.values.now))
