-- A read of the library takes the next record.
use Rattle.std.proofs.Common.{rules}
use Rattle.csv.specs.Records.{fields_of}
use Rattle.dk_copy.proofs.ReadingLemmas.{takes}
use Rattle.dk_copy.proofs.records.take_record.Goals.{in-Ok, in-Err}
use Rattle.dk_copy.proofs.records.take_record.Goals as goal

pub returns : goal.returns
returns g c = elim c.match-read_byte_record.branch [
  | in-Ok w ↦ rw w.result-is (λ turns left has. takes g.R.Read.remaining c.args.reader.now c.read_byte_record.new.self
      w.in-Ok.found (fields_of c.read_byte_record.new.row) turns left has (w.in-Ok.ensures.ready has.trims)
      (w.in-Ok.ensures.reads has.trims has.ready))
  | in-Err w ↦ rw w.result-is (search rules)
]
