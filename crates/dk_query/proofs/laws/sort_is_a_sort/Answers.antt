use Rattle.std.proofs.lemmas.List.Sorted.{ranks_by}
use Rattle.dk_query.specs.declared.lines.Line.{Line}
use Rattle.dk_query.specs.Order.{goes_before}
use Rattle.dk_query.proofs.OrderLemmas.{keys_cmp_total}
use Rattle.dk_query.proofs.SortLemmas.{sort_is}
use Rattle.dk_query.proofs.laws.sort_is_a_sort.Goals as goal

pub returns : goal.returns
returns c keys lines = sort_is (goes_before keys) (ranks_by (keys_cmp_total keys) (λ (line : Line). line.row)) lines
