use Rattle.std.proofs.Common.{◌↔◌, drop}
use Rattle.std.specs.List.{AllByRecursion}
use Rattle.dk_bytes.specs.RowFields.{IsCell}
use Rattle.dk_segment.proofs.present.are_cells.Given as goal

abbrev pub invariant-values : goal.invariant-values
invariant-values l = AllByRecursion (IsCell l.kind) l.values ↔ AllByRecursion (IsCell l.kind) (drop l.value-index l.values)
