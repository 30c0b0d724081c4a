-- What was put and what is left to put are the bytes with each quote doubled.
use Rattle.std.proofs.Common.{◌≡◌, ◌++◌, drop}
use Rattle.dk_texts.specs.Fields.{doubled}
use Rattle.dk_texts.proofs.fields.put_doubled.Given as goal

abbrev pub invariant-bytes : goal.invariant-bytes
invariant-bytes l = l.out.items ++ doubled (drop l.byte-index l.bytes) ≡ l.fn.out.items ++ doubled l.fn.bytes
