use Rattle.std.proofs.lemmas.Result.{IfOk-weaker}
use Rattle.dk_segment.proofs.ColumnNumberLemmas.{are_few, segment_is}
use Rattle.dk_segment.proofs.writing.encode_numbers.Goals as goal

pub spell_numbers-requires : goal.spell_numbers-requires
spell_numbers-requires c = rw c.kind.ensures (are_few c.args.cells.now.kind c.args.cells.now.values c.args.numbers.now c.requires.column c.requires.numeric c.requires.numbers c.requires.whole)

pub returns : goal.returns
returns c =
    IfOk-weaker c.spell_numbers.result _ _
    (λ v h. segment_is c.args.cells.now.kind c.args.cells.now.values c.args.numbers.now c.requires.column c.requires.numeric c.requires.numbers c.requires.whole v.items h)
    (rw c.kind.ensures at c.spell_numbers.ensures)
