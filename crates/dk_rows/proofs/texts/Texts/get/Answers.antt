use Rattle.std.proofs.Common.{ap, arith, length, List, ℕ}
use Rattle.dk_rows.proofs.PartsLemmas.{parts_len}
use Rattle.dk_rows.proofs.texts.Texts.get.Goals as goal

pub text_at-requires-clause-within : goal.text_at-requires-clause-within
text_at-requires-clause-within c =
    let e = ap (λ (ts : List (List ℕ)). length ts) c.self.view_is in
    let f = ap (λ (es : List ℕ). length es) c.deref-2.ensures.value in
    omega (arith, c.requires, e, f, parts_len 0 c.self.inside.bytes.items c.self.inside.ends.items)
