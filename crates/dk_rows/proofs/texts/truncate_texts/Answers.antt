use Rattle.std.proofs.Common.{sym, arith}
use Rattle.dk_rows.proofs.PartsLemmas.{parts_front, ends_front, parts_all}
use Rattle.dk_rows.proofs.texts.truncate_texts.Goals as goal

pub returns-then-n-len-clause-texts : goal.returns-then-n-len-clause-texts
returns-then-n-len-clause-texts c =
    rw (c.truncate.ensures.items, c.truncate-then-n-len.ensures.items, c.start_at.ensures, c.deref.ensures.value) (parts_front 0 _ _ _ _ c.requires (omega arith))

pub returns-then-n-len-clause-ends : goal.returns-then-n-len-clause-ends
returns-then-n-len-clause-ends c =
    rw (c.truncate.ensures.items, c.truncate-then-n-len.ensures.items, c.start_at.ensures, c.deref.ensures.value) (ends_front 0 _ _ _ c.requires)

pub returns-else-n-len-clause-texts : goal.returns-else-n-len-clause-texts
returns-else-n-len-clause-texts c = sym (parts_all 0 _ _ _ (omega (arith, c.if-n-len.false, c.len.ensures, c.args.ends.now.ok.0)))
