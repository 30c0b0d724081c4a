use Rattle.std.proofs.lemmas.List.Sorted.{ranks_by}
use Rattle.dk_query.specs.declared.lines.Line.{Line}
use Rattle.dk_query.specs.Order.{goes_before}
use Rattle.dk_query.proofs.OrderLemmas.{keys_cmp_total}
use Rattle.dk_query.proofs.SortLemmas.{is_sorted}
use Rattle.dk_query.proofs.laws.no_other_sort.Goals as goal

pub returns : goal.returns
returns c keys lines others sort =
    is_sorted (goes_before keys) (ranks_by (keys_cmp_total keys) (λ (line : Line). line.row)) lines others sort.ascends sort.stable
