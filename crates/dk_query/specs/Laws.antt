-- What the sort of lines is.
use Rattle.std.specs.Prelude.{◌≡◌, Bool, List, IsPermutation}
use Rattle.std.specs.List.Sorted.{IsSortedBy, IsStableBy}
use Rattle.dk_query.specs.declared.lines.Line.{Line}
use Rattle.dk_query.specs.declared.order.SortKey.{SortKey}
use Rattle.dk_query.specs.Order.{goes_before}
use Rattle.dk_query.specs.Sorted.{sorted}

-- a list is another one in order, with those that tie as they stood
pub record IsSortOf {T : Type 0} (below : T → T → Bool) (before after : List T) : Type 0 where
  pub whole : IsPermutation before after
  pub ascends : IsSortedBy below after
  pub stable : IsStableBy below before after

abbrev pub SortIsASort : Type 0
SortIsASort = (keys : List SortKey) (lines : List Line)
    → IsSortOf (goes_before keys) lines (sorted (goes_before keys) lines)

abbrev pub NoOtherSort : Type 0
NoOtherSort = (keys : List SortKey) (lines others : List Line)
    → IsSortOf (goes_before keys) lines others → others ≡ sorted (goes_before keys) lines
