use Rattle.std.proofs.Common.{ap, ◌++◌, ◌^◌, ◌<◌, List, ℕ, rules}
use Rattle.std.proofs.lemmas.Result.{on_ok_weaker}
use Rattle.dk_bytes.proofs.PackingLemmas.{behind_none, puts_word}
use Rattle.dk_bytes.proofs.bits.PendingBits.put.Goals as goal

pub returns-in-None-clause-ok : goal.returns-in-None-clause-ok
returns-in-None-clause-ok c numbers =
    ap (λ (bytes : List ℕ). c.args.out.now.items ++ bytes)
    (behind_none _ _ _ _ _ _ c.in-None.ensures.number c.in-None.ensures.count numbers)

pub returns-in-Some-clause-ok : goal.returns-in-Some-clause-ok
returns-in-Some-clause-ok c =
    let fits : c.in-Some.word < 2 ^ 64 = search rules in
    on_ok_weaker _ (puts_word _ _ _ _ _ _ _ fits c.in-Some.ensures.number c.in-Some.ensures.count) c.put_u64.ensures.ok
