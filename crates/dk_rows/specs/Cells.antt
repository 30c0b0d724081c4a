-- Which value a lent cell stands for.
use Rattle.dk_values.specs.declared.value.Value.{Value}
use Rattle.dk_values.specs.declared.value.Value.TheVariants as values
use Rattle.dk_rows.specs.declared.cell.Cell.{Cell}
use Rattle.dk_rows.specs.declared.cell.Cell.TheVariants as cells

abbrev pub value_of : Cell → Value
value_of cells.Null = values.Null
value_of (cells.Bool truth) = values.Bool truth
value_of (cells.Int number) = values.Int number
value_of (cells.Big number) = values.Big number
value_of (cells.Text text) = values.Text text.now
value_of (cells.Huge number) = values.Huge number
