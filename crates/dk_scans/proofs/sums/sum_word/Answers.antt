use Rattle.std.proofs.Common.{◌+ℤ◌, pos, fold, ap, sym, ◌∙◌, rules, FitsSigned}
use Rattle.std.specs.Int.{w128}
use Rattle.std.proofs.lemmas.Int.{to_z-of_z}
use Rattle.dk_scans.proofs.FoldLemmas.{all_bits}
use Rattle.dk_scans.proofs.sums.sum_word.Goals as goal

pub returns-then-word-eq18446744073709551615-clause-sum : goal.returns-then-word-eq18446744073709551615-clause-sum
returns-then-word-eq18446744073709551615-clause-sum c =
    let fits : FitsSigned w128 c.sum_all.result = search rules in
    to_z-of_z w128 c.sum_all.result fits ∙ c.sum_all.ensures.sum ∙ sym (ap (fold ◌+ℤ◌ (pos 0)) (all_bits (pos 0) c.args.numbers.now c.args.word c.if-word-eq18446744073709551615.true c.requires))
