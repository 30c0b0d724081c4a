use Rattle.std.proofs.Common.{◌*◌, drop, sym, arith}
use Rattle.std.proofs.lemmas.List.{length-take, length-drop}
use Rattle.dk_scans.proofs.SelectionLemmas.{same_take, next_word}
use Rattle.dk_scans.proofs.parts.part_at.Goals as goal

pub returns-clause-len : goal.returns-clause-len
returns-clause-len c =
    omega (arith, c.min-len.ensures, length-take c.min-len.result (drop (64 * c.args.k) c.args.numbers.now), length-drop (64 * c.args.k) c.args.numbers.now)

pub returns-clause-next : goal.returns-clause-next
returns-clause-next c =
    next_word c.args.flags.now c.args.numbers.now _ c.args.k c.word.result c.requires.same c.requires.within c.word.ensures
    (sym (same_take (drop (64 * c.args.k) c.args.numbers.now) 64 _ (omega (arith, c.min-len.ensures, length-drop (64 * c.args.k) c.args.numbers.now))))
